-- The call hasn't returned yet.
use Rattle.condvar.specs.Whole.{IsUnderWay}
use Rattle.machine_tests.proofs.condition_words.runs.Given as goal

abbrev pub invariant-loop-accesses : goal.invariant-loop-accesses
invariant-loop-accesses l = IsUnderWay l.program.phase
