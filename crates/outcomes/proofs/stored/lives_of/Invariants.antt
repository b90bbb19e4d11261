use Rattle.std.proofs.Common.{◌≡◌, take}
use Rattle.outcomes.specs.Kept.{places_in}
use Rattle.outcomes.specs.Stored.{places_among}
use Rattle.outcomes.proofs.stored.lives_of.Given as goal

abbrev pub invariant-loop-index : goal.invariant-loop-index
invariant-loop-index l = places_in l.lives.items ≡ places_among (take l.index l.standings)
