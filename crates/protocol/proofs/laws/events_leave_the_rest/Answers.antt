use Rattle.protocol.proofs.Changing.{changes_so}
use Rattle.protocol.proofs.laws.events_leave_the_rest.Goals as goal

pub returns : goal.returns
returns c = changes_so
