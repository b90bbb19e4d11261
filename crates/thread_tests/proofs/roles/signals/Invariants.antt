use Rattle.ruledwords.specs.Passes.{IsLive}
use Rattle.thread_tests.proofs.roles.signals.Given as goal

abbrev pub invariant-loop-woken : goal.invariant-loop-woken
invariant-loop-woken g l = IsLive l.bench l.pass
