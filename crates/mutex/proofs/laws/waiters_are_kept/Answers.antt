use Rattle.mutex.proofs.Trims.{kept}
use Rattle.mutex.proofs.laws.waiters_are_kept.Goals as goal

pub returns : goal.returns
returns c = kept
