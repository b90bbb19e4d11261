use Rattle.std.proofs.Common.{◌≡◌, take, map}
use Rattle.outcomes.specs.Comparisons.{AreComparable}
use Rattle.outcomes.specs.Kept.{place_in}
use Rattle.outcomes.specs.Stored.{places_among, threads_in}
use Rattle.outcomes.proofs.sameness.are_standings.Given as goal

abbrev pub invariant-loop-index : goal.invariant-loop-index
invariant-loop-index l = AreComparable l.threads → (threads_in (take l.index l.standings) ≡ take l.index l.threads) × (places_among (take l.index l.standings) ≡ map place_in (take l.index l.lives))
