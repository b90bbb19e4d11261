use Rattle.judge.proofs.Truths.{so}
use Rattle.judge.proofs.laws.reasons_hold.Goals as goal

pub returns : goal.returns
returns c = so
