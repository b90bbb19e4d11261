use Rattle.script.proofs.Told.{as_told}
use Rattle.script.proofs.laws.processes_are_as_told.Goals as goal

pub returns : goal.returns
returns c = as_told
