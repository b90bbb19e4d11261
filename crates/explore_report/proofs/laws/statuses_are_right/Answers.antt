use Rattle.explore_report.proofs.Statuses.{statuses}
use Rattle.explore_report.proofs.laws.statuses_are_right.Goals as goal

pub returns : goal.returns
returns g c = statuses _ _ _ _ _
