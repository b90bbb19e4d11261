use Rattle.judge_report.proofs.Traced.{written_so}
use Rattle.judge_report.proofs.laws.traces_are_written.Goals as goal

pub returns : goal.returns
returns g c = written_so _ _
