use Rattle.std.proofs.Common.{◌≡◌, ◌+◌, take, length}
use Rattle.script.specs.Playing.{layout_of}
use Rattle.script.proofs.layout.bases_of.Given as goal

abbrev pub invariant-loop-earlier : goal.invariant-loop-earlier
invariant-loop-earlier l = (take (l.earlier + 1) l.bases ≡ take (l.earlier + 1) (layout_of l.script).bases) × (length l.bases ≡ 8)
