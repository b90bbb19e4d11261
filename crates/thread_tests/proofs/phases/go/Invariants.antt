use Rattle.threadbench.specs.Answered.{IsWorkerOf}
use Rattle.thread_tests.proofs.phases.go.Given as goal

abbrev pub invariant-loop-now : goal.invariant-loop-now
invariant-loop-now g l = IsWorkerOf l.bench l.one.pass × IsWorkerOf l.bench l.other.pass
