use Rattle.explore_report.proofs.Lawful.{none_is_missing}
use Rattle.explore_report.proofs.laws.no_outcome_is_missing.Goals as goal

pub returns : goal.returns
returns c = none_is_missing
