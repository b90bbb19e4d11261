use Rattle.std.proofs.Common.{◌≡◌, length}
use Rattle.std.specs.Prelude.{slice_get}
use denote.Text.{Utf8}
use denote.Shadow.{shadow}
use Rattle.lines.specs.Lines.{lines_of}
use Rattle.explain.proofs.quoting.nth_line.Given as goal

abbrev pub invariant-lines : goal.invariant-lines
invariant-lines l = record {
  is_text : shadow (Utf8 l.rest);
  so_far : slice_get (lines_of l.rest) l.left ≡ slice_get (lines_of l.fn.text) l.fn.index;
}

abbrev pub decreases-lines : goal.decreases-lines
decreases-lines l = length l.rest
