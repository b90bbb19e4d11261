use Rattle.std.proofs.Common.{◌≡◌, ◌+◌, ◌≤◌, length, reverse, []}
use Rattle.std.specs.Prelude.{All}
use denote.Text.{Utf8}
use denote.Shadow.{shadow}
use Rattle.lines.specs.Lines.{lines_of}
use Rattle.verdict.specs.Reading.{lines_read}
use Rattle.verdict.specs.Told.{IsOf}
use Rattle.verdict.proofs.told.read_lines.Given as goal

abbrev pub invariant-loop-first : goal.invariant-loop-first
invariant-loop-first l = record {
  is_text : shadow (Utf8 l.rest);
  room : l.line + length l.rest ≤ length l.text + 2;
  count : l.line ≡ length l.lines.items + 2;
  so_far : lines_read l.line l.head (reverse l.lines.items) (lines_of l.rest) ≡ lines_read 2 l.head [] (lines_of l.text);
  within : All (IsOf l.head) l.lines.items;
}

abbrev pub decreases-loop-first : goal.decreases-loop-first
decreases-loop-first l = length l.rest
