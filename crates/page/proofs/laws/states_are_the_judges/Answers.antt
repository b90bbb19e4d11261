use Rattle.page.proofs.Judged as judged
use Rattle.page.proofs.laws.states_are_the_judges.Goals as goal

pub returns : goal.returns
returns c = judged.states_are_the_judges
