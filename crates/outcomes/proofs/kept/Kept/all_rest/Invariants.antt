use Rattle.std.proofs.Common.{◌≡◌, true}
use Rattle.outcomes.specs.Positions.{all_rest}
use Rattle.outcomes.specs.Kept.{position_in}
use Rattle.outcomes.proofs.kept.Kept.all_rest.Given as goal

abbrev pub invariant-loop-thread : goal.invariant-loop-thread
invariant-loop-thread l = all_rest (position_in l.plan.layout l.self).state l.thread-index ≡ true
