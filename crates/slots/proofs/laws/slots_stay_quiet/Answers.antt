use Rattle.slots.proofs.Following.{slots_quiet}
use Rattle.slots.proofs.laws.slots_stay_quiet.Goals as goal

pub returns : goal.returns
returns c = slots_quiet
