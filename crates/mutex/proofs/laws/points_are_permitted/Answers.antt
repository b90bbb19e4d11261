use Rattle.mutex.proofs.Replies.{permitted}
use Rattle.mutex.proofs.laws.points_are_permitted.Goals as goal

pub returns : goal.returns
returns c = permitted
