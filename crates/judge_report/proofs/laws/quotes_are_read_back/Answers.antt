use Rattle.judge_report.proofs.Quoting.{quotes_back}
use Rattle.judge_report.proofs.laws.quotes_are_read_back.Goals as goal

pub returns : goal.returns
returns c = quotes_back
