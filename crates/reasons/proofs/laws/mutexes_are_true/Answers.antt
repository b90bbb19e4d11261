use Rattle.reasons.proofs.Mutexes as mutexes
use Rattle.reasons.proofs.laws.mutexes_are_true.Goals as goal

pub returns : goal.returns
returns c = mutexes.mutexes_are_true
