use Rattle.runs_judged.proofs.Scripts.{scripts_judged}
use Rattle.runs_judged.proofs.laws.scripts_are_judged_legal.Goals as goal

pub returns : goal.returns
returns c = scripts_judged
