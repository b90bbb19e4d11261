use Rattle.std.proofs.Common.{◌≡◌, take, length}
use Rattle.script.specs.Playing.{layout_of}
use Rattle.script.proofs.layout.mutexes_of.Given as goal

abbrev pub invariant-loop-condition : goal.invariant-loop-condition
invariant-loop-condition l = (take l.condition l.mutexes ≡ take l.condition (layout_of l.script).conditions) × (length l.mutexes ≡ 256)
