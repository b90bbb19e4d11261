use Rattle.posixmutex.proofs.Replies.{calls}
use Rattle.posixmutex.proofs.object.calls_are_answered.Goals as goal

pub returns : goal.returns
returns c = calls
