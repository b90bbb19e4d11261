-- Calls on mutexes.
use Rattle.std.specs.Prelude.{ℕ}
use Rattle.posixmutex.specs.declared.point.Operation.{Operation}
use Rattle.posixmutex.specs.declared.point.Operation.TheVariants as operation
use Rattle.mutex.specs.declared.call.Call.{Call}
use Rattle.mutex.specs.declared.call.Call.TheVariants.{Lock, TimedLock, TryLock, Unlock, Consistent}

abbrev pub mutex_of : Call → ℕ
mutex_of (Lock m) = m
mutex_of (TimedLock m) = m
mutex_of (TryLock m) = m
mutex_of (Unlock m) = m
mutex_of (Consistent m) = m

abbrev pub operation_of : Call → Operation
operation_of (Lock m) = operation.Lock
operation_of (TimedLock m) = operation.TimedLock
operation_of (TryLock m) = operation.TryLock
operation_of (Unlock m) = operation.Unlock
operation_of (Consistent m) = operation.Consistent

-- what its accesses do to the mutex: one with a time limit is a lock while that hasn't come
abbrev pub acts_as : Call → Operation
acts_as (TimedLock m) = operation.Lock
acts_as c = operation_of c
