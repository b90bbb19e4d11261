use Rattle.std.proofs.Common.{◌≡◌, ◌+◌, ◌≤◌, length}
use denote.Text.{Utf8}
use denote.Shadow.{shadow}
use Rattle.lines.specs.Lines.{lines_of}
use Rattle.script.specs.Reading.{lines_read, text_read}
use Rattle.script.specs.Scope.{IsWithinLimits}
use Rattle.script.specs.Seen.{scope_of}
use Rattle.script.specs.Limits.{max_lines}
use Rattle.script.proofs.Lines.{IsBehind}
use Rattle.script.proofs.reading.read_text.Given as goal

abbrev pub invariant-loop-first : goal.invariant-loop-first
invariant-loop-first l = record {
  is_text : shadow (Utf8 l.rest);
  few_lines : l.line ≤ max_lines + 1;
  mode : l.draft.mode ≡ l.fn.mode;
  within : IsWithinLimits (scope_of l.draft);
  earlier : IsBehind l.text l.rest l.line;
  so_far : lines_read l.line (scope_of l.draft) (lines_of l.rest) ≡ text_read l.fn.mode l.text;
}

abbrev pub decreases-loop-first : goal.decreases-loop-first
decreases-loop-first l = length l.rest
