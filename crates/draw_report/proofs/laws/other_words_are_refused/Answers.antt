use Rattle.draw_report.proofs.Success as success
use Rattle.draw_report.proofs.laws.other_words_are_refused.Goals as goal

pub returns : goal.returns
returns g c = success.other_words_are_refused _ _ _
