use Rattle.protocol.proofs.Bounded.{only_they_wait}
use Rattle.protocol.proofs.laws.only_locks_and_waits_wait.Goals as goal

pub returns : goal.returns
returns c = only_they_wait
