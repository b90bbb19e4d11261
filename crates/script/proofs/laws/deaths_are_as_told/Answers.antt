use Rattle.script.proofs.DeathsTold.{as_told}
use Rattle.script.proofs.laws.deaths_are_as_told.Goals as goal

pub returns : goal.returns
returns c = as_told
