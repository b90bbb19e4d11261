use Rattle.script.proofs.Rests.{come_to_rest}
use Rattle.script.proofs.laws.threads_come_to_rest.Goals as goal

pub returns : goal.returns
returns _ = come_to_rest
