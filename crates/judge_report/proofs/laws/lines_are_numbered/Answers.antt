use Rattle.judge_report.proofs.Numbered.{numbered}
use Rattle.judge_report.proofs.laws.lines_are_numbered.Goals as goal

pub returns : goal.returns
returns c = numbered
