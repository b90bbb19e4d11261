use Rattle.protocol.proofs.WaitersBit.{kept_waiters}
use Rattle.protocol.proofs.laws.waiters_are_kept.Goals as goal

pub returns : goal.returns
returns c = kept_waiters
