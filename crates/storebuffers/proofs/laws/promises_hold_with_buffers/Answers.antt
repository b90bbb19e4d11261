use Rattle.storebuffers.proofs.Promises.{promises_hold}
use Rattle.storebuffers.proofs.laws.promises_hold_with_buffers.Goals as goal

pub returns : goal.returns
returns c = promises_hold
