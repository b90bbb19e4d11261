use Rattle.protocol.proofs.Emptied.{nobody_passed}
use Rattle.protocol.proofs.laws.nobody_is_passed_by.Goals as goal

pub returns : goal.returns
returns c = nobody_passed
