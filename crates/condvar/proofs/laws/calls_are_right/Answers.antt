use Rattle.condvar.proofs.Rights.{right}
use Rattle.condvar.proofs.laws.calls_are_right.Goals as goal

pub returns : goal.returns
returns c = right
