use Rattle.draw_report.proofs.Histories as histories
use Rattle.draw_report.proofs.laws.histories_are_known.Goals as goal

pub returns : goal.returns
returns c = histories.histories_are_known
