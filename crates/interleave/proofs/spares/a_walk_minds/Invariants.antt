use Rattle.std.proofs.Common.{◌≡◌, false}
use Rattle.syscalls.specs.Kernels.{Kernel'}
use Rattle.protocol.specs.Machine.{a_walk_minds}
use Rattle.interleave.specs.Shown.{state_at}
use Rattle.interleave.proofs.spares.a_walk_minds.Given as goal

-- none of the walks so far does
abbrev pub invariant-loop-index : goal.invariant-loop-index
invariant-loop-index l = (kernel : Kernel') → a_walk_minds (state_at l.layout l.memory kernel l.threads.items) l.mutex l.index ≡ false
