use Rattle.std.proofs.Common.{ℕ, ◌≡◌, ◌<◌}
use Rattle.std.specs.Prelude.{Contains}
use Rattle.syscalls.specs.Kernels.{queue_of, IsKernel}
use Rattle.interleave.proofs.saved.wake_all.Given as goal

-- those that were taken out are in no queue
abbrev pub invariant-loop-before : goal.invariant-loop-before
invariant-loop-before l = record {
  left : (key t : ℕ) → Contains (queue_of l.kernel key) t → l.before < t;
  sound : IsKernel l.kernel;
  threads : l.kernel.threads ≡ l.initial.kernel.threads;
  heads : l.kernel.heads ≡ l.initial.kernel.heads;
}
