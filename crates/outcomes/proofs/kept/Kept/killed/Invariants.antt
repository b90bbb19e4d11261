use Rattle.std.proofs.Common.{◌≡◌}
use Rattle.outcomes.specs.Positions.{killed_among}
use Rattle.outcomes.specs.Kept.{position_in}
use Rattle.outcomes.proofs.kept.Kept.killed.Given as goal

abbrev pub invariant-loop-before : goal.invariant-loop-before
invariant-loop-before l = l.killed ≡ killed_among (position_in l.plan.layout l.self).state l.before
