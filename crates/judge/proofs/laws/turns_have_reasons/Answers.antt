use Rattle.judge.proofs.Turns.{given}
use Rattle.judge.proofs.laws.turns_have_reasons.Goals as goal

pub returns : goal.returns
returns c = given
