-- The link or the unlink hasn't returned yet.
use Rattle.machine_tests.proofs.links.ends.Given as goal

abbrev pub invariant-loop-made : goal.invariant-loop-made
invariant-loop-made g l = g.P.StepProgram.is_under_way l.program
