use Rattle.picture.proofs.States as states
use Rattle.picture.proofs.laws.states_are_told_apart.Goals as goal

pub returns : goal.returns
returns c = states.states_are_told_apart
