-- The call hasn't returned yet.
use Rattle.machine_tests.proofs.steps.makes.Given as goal

abbrev pub invariant-loop-part : goal.invariant-loop-part
invariant-loop-part g l = g.P.Stepping.is_under_way l.program

abbrev pub invariant-loop-made : goal.invariant-loop-made
invariant-loop-made g l = g.P.Stepping.is_under_way l.program
