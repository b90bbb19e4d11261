use Rattle.picture.proofs.States as states
use Rattle.picture.proofs.laws.bands_show_mutexes.Goals as goal

pub returns : goal.returns
returns c = states.bands_show_mutexes
