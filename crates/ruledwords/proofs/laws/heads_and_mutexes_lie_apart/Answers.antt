use Rattle.ruledwords.proofs.Apart.{lie_apart}
use Rattle.ruledwords.proofs.laws.heads_and_mutexes_lie_apart.Goals as goal

pub returns : goal.returns
returns c = lie_apart
