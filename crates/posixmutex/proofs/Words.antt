-- What operations' words are read as.
use Rattle.std.proofs.Common.{◌≡◌, ℕ, Some, List, refl}
use Rattle.lockword.proofs.Names.{named}
use Rattle.posixmutex.specs.declared.point.Operation.{Operation}
use Rattle.posixmutex.specs.declared.point.Operation.TheVariants.{Lock, TryLock, TimedLock, Unlock, Consistent, Wait, TimedWait, Signal, Broadcast, Death, Reinit}
use Rattle.posixmutex.specs.Words.{OperationsAreReadBack, all_operations, operation_of, operation_word}

back : (op : Operation) → operation_of (operation_word op) ≡ Some op
unfolding operation_of
back Lock = refl
back TryLock = refl
back TimedLock = refl
back Unlock = refl
back Consistent = refl
back Wait = refl
back TimedWait = refl
back Signal = refl
back Broadcast = refl
back Death = refl
back Reinit = refl

only : (text : List ℕ) (op : Operation) → operation_of text ≡ Some op → text ≡ operation_word op
unfolding operation_of
only text op e = named operation_word all_operations text op e

pub operations_read_back : OperationsAreReadBack
operations_read_back = record { back = back; only = only }
