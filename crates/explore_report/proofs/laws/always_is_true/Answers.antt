use Rattle.explore_report.proofs.Lawful.{always}
use Rattle.explore_report.proofs.laws.always_is_true.Goals as goal

pub returns : goal.returns
returns c = always
