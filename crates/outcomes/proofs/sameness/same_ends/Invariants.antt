use Rattle.std.proofs.Common.{◌≡◌, take, map}
use Rattle.outcomes.specs.Outcomes.{ended_in}
use Rattle.outcomes.proofs.sameness.same_ends.Given as goal

abbrev pub invariant-loop-index : goal.invariant-loop-index
invariant-loop-index l = map ended_in (take l.index l.a) ≡ map ended_in (take l.index l.b)
