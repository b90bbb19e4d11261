use Rattle.protocol.proofs.laws.without_renewals_as_before.Goals as goal
use Rattle.protocol.proofs.Anew.{lives_are_one}

pub returns : goal.returns
returns c = lives_are_one
