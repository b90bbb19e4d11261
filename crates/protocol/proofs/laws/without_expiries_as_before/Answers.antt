use Rattle.protocol.proofs.TimeLimits.{as_before}
use Rattle.protocol.proofs.laws.without_expiries_as_before.Goals as goal

pub returns : goal.returns
returns c = as_before
