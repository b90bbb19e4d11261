use Rattle.storebuffers.proofs.Drains.{drain}
use Rattle.storebuffers.proofs.laws.buffers_drain.Goals as goal

pub returns : goal.returns
returns c = drain
