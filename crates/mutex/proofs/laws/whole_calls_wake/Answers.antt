use Rattle.mutex.proofs.WholeWakes.{whole_wakes}
use Rattle.mutex.proofs.laws.whole_calls_wake.Goals as goal

pub returns : goal.returns
returns c = whole_wakes
