use Rattle.judge_report.proofs.Options.{options_write}
use Rattle.judge_report.proofs.laws.options_write.Goals as goal

pub returns : goal.returns
returns g c = options_write _ _
