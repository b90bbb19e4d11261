use Rattle.std.proofs.Common.{◌≡◌, length}
use Rattle.lines.specs.Lines.{lines_of}
use Rattle.explain.specs.Explains.{mode_in}
use Rattle.explain.proofs.modes.mode_of.Given as goal

abbrev pub invariant-lines : goal.invariant-lines
invariant-lines l = mode_in (lines_of l.rest) ≡ mode_in (lines_of l.fn.bytes)

abbrev pub decreases-lines : goal.decreases-lines
decreases-lines l = length l.rest
