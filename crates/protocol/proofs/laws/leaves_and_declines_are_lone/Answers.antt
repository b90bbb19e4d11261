use Rattle.protocol.proofs.laws.leaves_and_declines_are_lone.Goals as goal
use Rattle.protocol.proofs.Lone.{leaves_lone}

pub returns : goal.returns
returns c = leaves_lone
