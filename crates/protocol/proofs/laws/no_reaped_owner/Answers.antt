use Rattle.protocol.proofs.Reaped.{nobody_reaped_owns}
use Rattle.protocol.proofs.laws.no_reaped_owner.Goals as goal

pub returns : goal.returns
returns c = nobody_reaped_owns
