use Rattle.ruledwords.specs.Passes.{IsLive}
use Rattle.thread_tests.proofs.kills.accesses.made.Given as goal

abbrev pub invariant-loop-op : goal.invariant-loop-op
invariant-loop-op g l = IsLive l.bench l.pass
