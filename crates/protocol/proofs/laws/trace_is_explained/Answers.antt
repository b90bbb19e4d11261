use Rattle.protocol.proofs.Lives.{explained}
use Rattle.protocol.proofs.laws.trace_is_explained.Goals as goal

pub returns : goal.returns
returns c = explained
