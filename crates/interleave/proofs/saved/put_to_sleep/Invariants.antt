use Rattle.std.proofs.Common.{ℕ, ◌≡◌, take}
use Rattle.syscalls.specs.Kernels.{queue_of}
use Rattle.interleave.specs.Saved.{sleepers_at}
use Rattle.interleave.proofs.saved.put_to_sleep.Given as goal

abbrev pub invariant-loop-sleeper : goal.invariant-loop-sleeper
invariant-loop-sleeper l = record {
  queues : (key : ℕ) → queue_of l.kernel key ≡ sleepers_at (take l.sleeper-index l.sleepers) key;
  threads : l.kernel.threads ≡ l.initial.kernel.threads;
  heads : l.kernel.heads ≡ l.initial.kernel.heads;
}
