-- The call hasn't ended yet.
use Rattle.machine_tests.proofs.links.takes_no_other.Given as goal

abbrev pub invariant-loop-answer : goal.invariant-loop-answer
invariant-loop-answer g l = g.P.StepProgram.is_under_way l.program

abbrev pub invariant-loop-right : goal.invariant-loop-right
invariant-loop-right g l = g.P.StepProgram.is_under_way l.program
