use Rattle.stepprograms.proofs.Trims.{right}
use Rattle.stepprograms.proofs.access.trims_are_right.Goals as goal

pub returns : goal.returns
returns c = right
