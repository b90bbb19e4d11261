-- The call hasn't ended yet.
use Rattle.exitwalk.specs.Walks.{IsGoing}
use Rattle.machine_tests.proofs.walks.steps.takes.Given as goal

abbrev pub invariant-loop-index : goal.invariant-loop-index
invariant-loop-index g l = IsGoing l.walk.row
