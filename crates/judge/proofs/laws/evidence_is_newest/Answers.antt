use Rattle.judge.proofs.Newest.{newest_so}
use Rattle.judge.proofs.laws.evidence_is_newest.Goals as goal

pub returns : goal.returns
returns c = newest_so
