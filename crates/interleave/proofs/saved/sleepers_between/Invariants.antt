use Rattle.std.proofs.Common.{ℕ, ◌≡◌, ◌&&◌, [], nat_le, nat_lt, if◌then◌else◌}
use Rattle.syscalls.specs.Kernels.{queue_of}
use Rattle.interleave.specs.Saved.{sleepers_at}
use Rattle.interleave.proofs.saved.sleepers_between.Given as goal

abbrev pub invariant-loop-place : goal.invariant-loop-place
invariant-loop-place l = (p : ℕ) → sleepers_at l.sleepers.items p ≡ (if nat_le l.first p && nat_lt p l.place then queue_of l.kernel p else [])
