use Rattle.thread_fixtures.specs.Fours.{AreLive}
use Rattle.thread_fixtures.proofs.played.plays.Given as goal

abbrev pub invariant-loop-step : goal.invariant-loop-step
invariant-loop-step g l = AreLive l.bench l.four
