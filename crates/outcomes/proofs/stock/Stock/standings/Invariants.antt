use Rattle.std.proofs.Common.{◌≡◌, take}
use Rattle.outcomes.specs.Kept.{places_in}
use Rattle.outcomes.specs.Stored.{places_among, threads_in}
use Rattle.outcomes.proofs.stock.Stock.standings.Given as goal

abbrev pub invariant-loop-index : goal.invariant-loop-index
invariant-loop-index l = record {
  threads : threads_in l.standings.items ≡ take l.index l.threads;
  places : places_among l.standings.items ≡ places_in (take l.index l.lives);
}
