use Rattle.ruledwords.specs.Passes.{IsLive}
use Rattle.thread_tests.proofs.sleepers.frees_both.Given as goal

abbrev pub invariant-loop-mutex : goal.invariant-loop-mutex
invariant-loop-mutex g l = IsLive l.bench l.pass
