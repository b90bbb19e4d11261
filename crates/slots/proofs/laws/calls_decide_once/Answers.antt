use Rattle.slots.proofs.Following.{decide_once}
use Rattle.slots.proofs.laws.calls_decide_once.Goals as goal

pub returns : goal.returns
returns c = decide_once
