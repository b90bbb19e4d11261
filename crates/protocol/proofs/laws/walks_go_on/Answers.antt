use Rattle.protocol.proofs.WalksOn.{marks_its_own}
use Rattle.protocol.proofs.laws.walks_go_on.Goals as goal

pub returns : goal.returns
returns c = marks_its_own
