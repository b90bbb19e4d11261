use Rattle.protocol.proofs.Applying.{applied}
use Rattle.protocol.proofs.laws.events_apply.Goals as goal

pub returns : goal.returns
returns c = applied
