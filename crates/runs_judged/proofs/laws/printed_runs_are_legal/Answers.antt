use Rattle.runs_judged.proofs.Scripts.{printed}
use Rattle.runs_judged.proofs.laws.printed_runs_are_legal.Goals as goal

pub returns : goal.returns
returns c = printed
