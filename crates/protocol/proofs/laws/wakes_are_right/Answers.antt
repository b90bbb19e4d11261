use Rattle.protocol.proofs.Woken.{woken_right}
use Rattle.protocol.proofs.laws.wakes_are_right.Goals as goal

pub returns : goal.returns
returns c = woken_right
