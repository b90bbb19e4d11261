use Rattle.posixmutex.proofs.object.Object.permitted.Goals as goal

pub returns-in-Broadcast : goal.returns-in-Broadcast
returns-in-Broadcast c = rw c.in-Broadcast.is c.signalled-in-Broadcast.ensures.broadcast
