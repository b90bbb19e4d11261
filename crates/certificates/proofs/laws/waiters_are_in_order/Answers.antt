use Rattle.certificates.proofs.Leaving.{in_order}
use Rattle.certificates.proofs.laws.waiters_are_in_order.Goals as goal

pub returns : goal.returns
returns c = in_order
