use Rattle.std.proofs.Common.{◌≡◌, ℕ, ◌≤◌, []}
use Rattle.memorymap.specs.Layouts.{head_place, address_in}
use Rattle.syscalls.specs.Kernels.{queue_of, head_of}
use Rattle.interleave.proofs.machine.first_kernel.Given as goal

-- this many heads are set, and nobody sleeps
abbrev pub invariant-loop-before : goal.invariant-loop-before
invariant-loop-before l = record {
  threads : l.kernel.threads ≡ l.layout.threads;
  queues : (key : ℕ) → queue_of l.kernel key ≡ [];
  heads : (t : ℕ) → 1 ≤ t → t ≤ l.before → head_of l.kernel t ≡ address_in l.layout t (head_place t);
}
