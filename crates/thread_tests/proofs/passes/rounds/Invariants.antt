use Rattle.ruledwords.specs.Passes.{IsLive}
use Rattle.thread_tests.proofs.passes.rounds.Given as goal

abbrev pub invariant-loop : goal.invariant-loop
invariant-loop l = IsLive l.words l.pass
