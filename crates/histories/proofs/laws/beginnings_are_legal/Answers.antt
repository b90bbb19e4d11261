use Rattle.histories.proofs.Showing.{beginnings}
use Rattle.histories.proofs.laws.beginnings_are_legal.Goals as goal

pub returns : goal.returns
returns c = beginnings
