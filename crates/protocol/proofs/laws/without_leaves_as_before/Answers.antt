use Rattle.protocol.proofs.laws.without_leaves_as_before.Goals as goal
use Rattle.protocol.proofs.InTurn.{fronts_are_woken}

pub returns : goal.returns
returns c = fronts_are_woken
