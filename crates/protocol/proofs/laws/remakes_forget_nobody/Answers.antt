use Rattle.protocol.proofs.laws.remakes_forget_nobody.Goals as goal
use Rattle.protocol.proofs.Unusable.{remakes_forget_nobody}

pub returns : goal.returns
returns c = remakes_forget_nobody
