use Rattle.certificates.proofs.Leaving.{since_last}
use Rattle.certificates.proofs.laws.since_is_the_last.Goals as goal

pub returns : goal.returns
returns c = since_last
