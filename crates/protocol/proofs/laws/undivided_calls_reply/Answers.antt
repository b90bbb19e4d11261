use Rattle.protocol.proofs.Undivided.{all_reply}
use Rattle.protocol.proofs.laws.undivided_calls_reply.Goals as goal

pub returns : goal.returns
returns c = all_reply
