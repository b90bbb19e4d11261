use Rattle.std.proofs.Common.{rules}
use Rattle.posixmutex.specs.Words.{operation_of}
use Rattle.posixmutex.proofs.point.OperationFromStr.from_str.Goals as goal

pub loop-operation-init : goal.loop-operation-init
unfolding operation_of
loop-operation-init c = search rules
