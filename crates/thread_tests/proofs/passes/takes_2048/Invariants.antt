use Rattle.ruledwords.specs.Passes.{IsLive}
use Rattle.thread_tests.proofs.passes.takes_2048.Given as goal

abbrev pub invariant-loop-mutex : goal.invariant-loop-mutex
invariant-loop-mutex l = IsLive l.words l.pass
