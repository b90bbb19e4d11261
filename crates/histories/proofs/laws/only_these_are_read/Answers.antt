use Rattle.histories.proofs.Only.{only_these}
use Rattle.histories.proofs.laws.only_these_are_read.Goals as goal

pub returns : goal.returns
returns c = only_these
