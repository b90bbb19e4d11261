use Rattle.explore_report.proofs.Lawful.{are_possible}
use Rattle.explore_report.proofs.laws.printed_outcomes_are_possible.Goals as goal

pub returns : goal.returns
returns c = are_possible
