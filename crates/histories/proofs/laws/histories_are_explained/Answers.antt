use Rattle.histories.proofs.Showing.{explained}
use Rattle.histories.proofs.laws.histories_are_explained.Goals as goal

pub returns : goal.returns
returns c = explained
