use Rattle.protocol.proofs.laws.renewals_begin_anew.Goals as goal
use Rattle.protocol.proofs.Anew.{renewed_anew}

pub returns : goal.returns
returns c = renewed_anew
