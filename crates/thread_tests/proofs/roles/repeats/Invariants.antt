use Rattle.ruledwords.specs.Passes.{IsLive}
use Rattle.thread_tests.proofs.roles.repeats.Given as goal

abbrev pub invariant-loop : goal.invariant-loop
invariant-loop g l = IsLive l.bench l.pass
