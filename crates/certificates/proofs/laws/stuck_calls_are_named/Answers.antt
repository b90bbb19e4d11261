use Rattle.certificates.proofs.Members.{stuck_are_named}
use Rattle.certificates.proofs.laws.stuck_calls_are_named.Goals as goal

pub returns : goal.returns
returns c = stuck_are_named
