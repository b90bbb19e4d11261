use Rattle.protocol.proofs.Runs.{legal}
use Rattle.protocol.proofs.laws.history_is_legal.Goals as goal

pub returns : goal.returns
returns c = legal
