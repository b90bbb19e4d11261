use Rattle.protocol.proofs.LoneExpiries.{lone_expiries}
use Rattle.protocol.proofs.laws.expiries_are_lone.Goals as goal

pub returns : goal.returns
returns c = lone_expiries
