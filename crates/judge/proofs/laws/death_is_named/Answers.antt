use Rattle.judge.proofs.Deaths.{death_so}
use Rattle.judge.proofs.laws.death_is_named.Goals as goal

pub returns : goal.returns
returns c = death_so
