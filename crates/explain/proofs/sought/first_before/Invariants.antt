use Rattle.std.proofs.Common.{◌≡◌, ◌-◌, length, take}
use denote.Text.{Utf8}
use denote.Shadow.{shadow}
use Rattle.lines.specs.Lines.{lines_of}
use Rattle.explain.specs.Sought.{first_line, is_sought}
use Rattle.explain.proofs.sought.first_before.Given as goal

abbrev pub invariant-lines : goal.invariant-lines
invariant-lines l = record {
  is_text : shadow (Utf8 l.rest);
  so_far : first_line (λ t. is_sought l.fn.sought t) l.line (take (l.before - l.line) (lines_of l.rest)) ≡ first_line (λ t. is_sought l.fn.sought t) 1 (take (l.before - 1) (lines_of l.fn.text));
}

abbrev pub decreases-lines : goal.decreases-lines
decreases-lines l = length l.rest
