use Rattle.interleave.proofs.Dying.{found_at}
use Rattle.interleave.proofs.deaths.mutex_at.Goals as goal

pub returns : goal.returns
returns c = found_at c.args.layout.now c.args.place c.mutex_of.result c.mutex_of.ensures
