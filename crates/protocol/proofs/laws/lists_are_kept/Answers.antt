use Rattle.protocol.proofs.Reaped.{kept_lists}
use Rattle.protocol.proofs.laws.lists_are_kept.Goals as goal

pub returns : goal.returns
returns c = kept_lists
