use Rattle.draw_report.proofs.Success as success
use Rattle.draw_report.proofs.laws.success_is_whole.Goals as goal

pub returns : goal.returns
returns g c = success.success_is_whole _ _ _
