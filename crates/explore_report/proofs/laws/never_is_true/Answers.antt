use Rattle.explore_report.proofs.Lawful.{never}
use Rattle.explore_report.proofs.laws.never_is_true.Goals as goal

pub returns : goal.returns
returns c = never
