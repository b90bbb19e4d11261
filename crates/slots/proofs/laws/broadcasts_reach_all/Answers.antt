use Rattle.slots.proofs.Broadcasts.{broadcasts_reach}
use Rattle.slots.proofs.laws.broadcasts_reach_all.Goals as goal

pub returns : goal.returns
returns c = broadcasts_reach
