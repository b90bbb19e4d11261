use Rattle.mutex.proofs.Wholes.{whole}
use Rattle.mutex.proofs.laws.whole_calls_are_right.Goals as goal

pub returns : goal.returns
returns c = whole
