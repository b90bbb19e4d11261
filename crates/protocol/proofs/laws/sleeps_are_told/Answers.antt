use Rattle.protocol.proofs.Waking.{told_sleeps}
use Rattle.protocol.proofs.laws.sleeps_are_told.Goals as goal

pub returns : goal.returns
returns c = told_sleeps
