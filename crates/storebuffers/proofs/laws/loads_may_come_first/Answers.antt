use Rattle.storebuffers.proofs.LoadsFirst.{loads_first}
use Rattle.storebuffers.proofs.laws.loads_may_come_first.Goals as goal

pub returns : goal.returns
returns c = loads_first
