use Rattle.ruledwords.specs.Passes.{IsLive}
use Rattle.thread_tests.proofs.two.told.Given as goal

abbrev pub invariant-loop-call : goal.invariant-loop-call
invariant-loop-call l = IsLive l.words l.pass
