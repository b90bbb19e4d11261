use Rattle.ruledwords.specs.Passes.{IsLive}
use Rattle.timings.proofs.rounds.rounds.Given as goal

abbrev pub invariant-loop : goal.invariant-loop
invariant-loop l = IsLive l.words l.pass
