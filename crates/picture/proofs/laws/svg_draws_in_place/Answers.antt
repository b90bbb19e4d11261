use Rattle.picture.proofs.Positions as positions
use Rattle.picture.proofs.laws.svg_draws_in_place.Goals as goal

pub returns : goal.returns
returns c = positions.svg_draws_in_place
