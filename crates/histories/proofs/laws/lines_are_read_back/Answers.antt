use Rattle.histories.proofs.ReadBack.{lines_back}
use Rattle.histories.proofs.laws.lines_are_read_back.Goals as goal

pub returns : goal.returns
returns c = lines_back
