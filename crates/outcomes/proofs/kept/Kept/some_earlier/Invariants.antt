use Rattle.std.proofs.Common.{◌≡◌, false}
use Rattle.outcomes.specs.Positions.{some_earlier}
use Rattle.outcomes.specs.Kept.{position_in}
use Rattle.outcomes.proofs.kept.Kept.some_earlier.Given as goal

abbrev pub invariant-loop-before : goal.invariant-loop-before
invariant-loop-before l = some_earlier l.plan (position_in l.plan.layout l.self) l.phase l.before ≡ false
