-- The call hasn't returned yet.
use Rattle.mutex.specs.Whole.{IsUnderWay}
use Rattle.machine_tests.proofs.steps.past_the_list.Given as goal

abbrev pub invariant-loop : goal.invariant-loop
invariant-loop l = IsUnderWay l.program.phase
