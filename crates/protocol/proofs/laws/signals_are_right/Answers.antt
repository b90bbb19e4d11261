use Rattle.protocol.proofs.Signalling.{right_signals}
use Rattle.protocol.proofs.laws.signals_are_right.Goals as goal

pub returns : goal.returns
returns c = right_signals
