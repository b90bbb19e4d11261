use Rattle.mutex.proofs.Rights.{right}
use Rattle.mutex.proofs.laws.programs_are_right.Goals as goal

pub returns : goal.returns
returns c = right
