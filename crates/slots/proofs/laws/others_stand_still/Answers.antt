use Rattle.slots.proofs.Others.{others_still}
use Rattle.slots.proofs.laws.others_stand_still.Goals as goal

pub returns : goal.returns
returns c = others_still
