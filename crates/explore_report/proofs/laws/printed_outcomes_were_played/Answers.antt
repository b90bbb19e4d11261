use Rattle.explore_report.proofs.Lawful.{were_played}
use Rattle.explore_report.proofs.laws.printed_outcomes_were_played.Goals as goal

pub returns : goal.returns
returns c = were_played
