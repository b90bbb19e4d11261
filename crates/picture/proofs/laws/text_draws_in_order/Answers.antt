use Rattle.picture.proofs.Positions as positions
use Rattle.picture.proofs.laws.text_draws_in_order.Goals as goal

pub returns : goal.returns
returns c = positions.text_draws_in_order
