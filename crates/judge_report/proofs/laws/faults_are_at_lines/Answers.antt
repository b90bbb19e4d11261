use Rattle.judge_report.proofs.Faulty.{faults_at_lines}
use Rattle.judge_report.proofs.laws.faults_are_at_lines.Goals as goal

pub returns : goal.returns
returns c = faults_at_lines
