use Rattle.judge_report.proofs.Options.{options_read}
use Rattle.judge_report.proofs.laws.options_are_read.Goals as goal

pub returns : goal.returns
returns c = options_read
