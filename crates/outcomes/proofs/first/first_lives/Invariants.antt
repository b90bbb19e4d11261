use Rattle.std.proofs.Common.{◌≡◌}
use Rattle.std.specs.Prelude.{replicate}
use Rattle.outcomes.specs.Positions.{first_place}
use Rattle.outcomes.specs.Kept.{places_in}
use Rattle.outcomes.proofs.first.first_lives.Given as goal

abbrev pub invariant-loop-index : goal.invariant-loop-index
invariant-loop-index l = places_in l.lives.items ≡ replicate l.index first_place
