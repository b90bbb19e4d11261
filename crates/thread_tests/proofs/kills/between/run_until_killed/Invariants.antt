use Rattle.ruledwords.specs.Passes.{IsLive}
use Rattle.thread_tests.proofs.kills.between.run_until_killed.Given as goal

abbrev pub invariant-loop-turn : goal.invariant-loop-turn
invariant-loop-turn g l = IsLive l.bench l.pass
