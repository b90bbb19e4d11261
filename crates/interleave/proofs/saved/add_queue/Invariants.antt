use Rattle.std.proofs.Common.{ℕ, ◌≡◌, ◌==◌, [], ◌++◌, take, if◌then◌else◌}
use Rattle.interleave.specs.Saved.{sleepers_at}
use Rattle.interleave.proofs.saved.add_queue.Given as goal

abbrev pub invariant-loop-rank : goal.invariant-loop-rank
invariant-loop-rank l = (p : ℕ) → sleepers_at l.sleepers.items p ≡ sleepers_at l.initial.sleepers.items p ++ (if l.place == p then take l.rank l.queue else [])
