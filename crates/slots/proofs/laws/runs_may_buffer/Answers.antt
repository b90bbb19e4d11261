use Rattle.slots.proofs.Buffering.{may_buffer}
use Rattle.slots.proofs.laws.runs_may_buffer.Goals as goal

pub returns : goal.returns
returns c = may_buffer
