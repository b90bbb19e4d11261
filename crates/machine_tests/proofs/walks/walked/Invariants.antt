-- The call hasn't ended yet.
use Rattle.exitwalk.specs.Walks.{IsGoing}
use Rattle.machine_tests.proofs.walks.walked.Given as goal

abbrev pub invariant-loop : goal.invariant-loop
invariant-loop g l = IsGoing l.walk.row
