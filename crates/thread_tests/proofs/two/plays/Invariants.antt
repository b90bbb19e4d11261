use Rattle.ruledwords.specs.Passes.{IsLive}
use Rattle.thread_tests.proofs.two.plays.Given as goal

abbrev pub invariant-loop-who : goal.invariant-loop-who
invariant-loop-who l = IsLive l.two.0 l.two.1 × IsLive l.two.0 l.two.2
