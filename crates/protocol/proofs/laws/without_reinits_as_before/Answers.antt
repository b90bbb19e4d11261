use Rattle.protocol.proofs.laws.without_reinits_as_before.Goals as goal
use Rattle.protocol.proofs.Unusable.{unusable_stays}

pub returns : goal.returns
returns c = unusable_stays
