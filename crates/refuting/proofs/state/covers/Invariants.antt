use Rattle.std.proofs.Common.{ℕ, ◌<◌}
use Rattle.refuting.specs.States.{HasAll, call_at}
use Rattle.refuting.proofs.state.covers.Given as goal

abbrev pub invariant-loop-id : goal.invariant-loop-id
invariant-loop-id l = (t : ℕ) → t < l.id → HasAll (call_at l.one.calls t) (call_at l.other.calls t)
