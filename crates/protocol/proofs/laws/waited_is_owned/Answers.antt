use Rattle.protocol.proofs.TimeLimits.{waited_is_owned}
use Rattle.protocol.proofs.laws.waited_is_owned.Goals as goal

pub returns : goal.returns
returns c = waited_is_owned
