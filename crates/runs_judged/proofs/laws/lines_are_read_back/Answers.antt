use Rattle.runs_judged.proofs.ReadBack.{lines_back}
use Rattle.runs_judged.proofs.laws.lines_are_read_back.Goals as goal

pub returns : goal.returns
returns c = lines_back
