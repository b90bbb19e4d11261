use Rattle.runs_judged.proofs.Judging.{judged}
use Rattle.runs_judged.proofs.laws.runs_are_judged_legal.Goals as goal

pub returns : goal.returns
returns c = judged
