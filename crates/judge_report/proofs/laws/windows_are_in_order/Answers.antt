use Rattle.judge_report.proofs.Naming.{windows_in_order}
use Rattle.judge_report.proofs.laws.windows_are_in_order.Goals as goal

pub returns : goal.returns
returns g c = windows_in_order _ _
