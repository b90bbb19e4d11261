use Rattle.mutex.proofs.Wakes.{woken_right}
use Rattle.mutex.proofs.laws.wakes_are_right.Goals as goal

pub returns : goal.returns
returns c = woken_right
