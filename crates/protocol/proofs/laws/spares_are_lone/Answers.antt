use Rattle.protocol.proofs.laws.spares_are_lone.Goals as goal
use Rattle.protocol.proofs.Lone.{spares_lone}

pub returns : goal.returns
returns c = spares_lone
