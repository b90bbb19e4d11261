use Rattle.picture.proofs.States as states
use Rattle.picture.proofs.laws.lanes_show_threads.Goals as goal

pub returns : goal.returns
returns c = states.lanes_show_threads
