use Rattle.ruledwords.proofs.Behind.{ordered}
use Rattle.ruledwords.proofs.laws.meetings_order_calls.Goals as goal

pub returns : goal.returns
returns c = ordered
