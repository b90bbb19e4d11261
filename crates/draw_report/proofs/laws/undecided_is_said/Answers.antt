use Rattle.draw_report.proofs.Histories as histories
use Rattle.draw_report.proofs.laws.undecided_is_said.Goals as goal

pub returns : goal.returns
returns c = histories.undecided_is_said
