use Rattle.picture.proofs.Used.{used_have}
use Rattle.picture.proofs.laws.used_mutexes_have_bands.Goals as goal

pub returns : goal.returns
returns c = used_have
