use Rattle.protocol.proofs.Deaths.{told_deaths}
use Rattle.protocol.proofs.laws.deaths_are_told.Goals as goal

pub returns : goal.returns
returns c = told_deaths
