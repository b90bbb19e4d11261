-- The call hasn't ended yet.
use Rattle.exitwalk.specs.Walks.{IsGoing}
use Rattle.machine_tests.proofs.walks.steps.an_answer_of_another_access_ends_the_walk.Given as goal

abbrev pub invariant-loop-step : goal.invariant-loop-step
invariant-loop-step g l = IsGoing l.walk.row
