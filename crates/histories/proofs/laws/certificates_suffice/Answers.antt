use Rattle.histories.proofs.Showing.{suffices}
use Rattle.histories.proofs.laws.certificates_suffice.Goals as goal

pub returns : goal.returns
returns c = suffices
