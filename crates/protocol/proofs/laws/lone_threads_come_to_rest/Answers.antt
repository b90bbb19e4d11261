use Rattle.protocol.proofs.Undivided.{all_rest}
use Rattle.protocol.proofs.laws.lone_threads_come_to_rest.Goals as goal

pub returns : goal.returns
returns c = all_rest
