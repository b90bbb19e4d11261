use Rattle.std.proofs.Common.{ℕ, ◌<◌}
use Rattle.windows.specs.Places.{WaitsAlike}
use Rattle.windows.proofs.alike.all_wait_alike.Given as goal

abbrev pub invariant-loop-id : goal.invariant-loop-id
invariant-loop-id l = (t : ℕ) → t < l.id → WaitsAlike l.a l.b t
