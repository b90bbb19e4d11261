use Rattle.std.proofs.Common.{◌≡◌, take}
use Rattle.outcomes.specs.Kept.{places_in}
use Rattle.outcomes.proofs.kept.same_lives.Given as goal

abbrev pub invariant-loop-life : goal.invariant-loop-life
invariant-loop-life l = places_in l.copy.items ≡ places_in (take l.life-index l.lives)
