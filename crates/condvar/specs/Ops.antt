-- Calls, on mutexes and on condition variables.
--
-- *Calls.* On a mutex or on a condition variable; one of these is about the mutex that the layout gives its condition
-- variable. A wait is in a call on its condition variable until it is awake, and then in the lock that ends it
-- (`Stage`; `protocol/src/thread.rt`).
use Rattle.std.specs.Prelude.{ℕ, Bool, ◌&&◌, Option, Some, None, nat_lt, length}
use Rattle.lockword.specs.declared.reply.Reply.{Reply}
use Rattle.posixmutex.specs.declared.point.Operation.{Operation}
use Rattle.memorymap.specs.Layouts.{Layout'}
use Rattle.mutex.specs.Calls as mutex
use Rattle.condvar.specs.Calls as condition
use Rattle.condvar.specs.Programs as condition_programs
use Rattle.condvar.specs.declared.op.Op.{Op}
use Rattle.condvar.specs.declared.op.Op.TheVariants.{OnMutex, OnCondition}

abbrev pub operation_of : Op → Operation
operation_of (OnMutex c) = mutex.operation_of c
operation_of (OnCondition c) = condition.operation_of c

-- what its accesses do to its mutex: a lock with a time limit is a lock while that hasn't come, and a wait with one is a
-- wait
abbrev pub acts_as : Op → Operation
acts_as (OnMutex c) = mutex.acts_as c
acts_as (OnCondition c) = condition.acts_as c

-- the mutex that a call is about: on a condition variable, the one that the layout gives this
abbrev pub mutex_of : Layout' → Op → ℕ
mutex_of l (OnMutex c) = mutex.mutex_of c
mutex_of l (OnCondition c) = condition_programs.mutex_of l c

abbrev pub condition_of : Op → Option ℕ
condition_of (OnMutex c) = None
condition_of (OnCondition c) = Some (condition.condition_of c)

-- what it names is the layout's
abbrev pub is_in : Layout' → Op → Bool
is_in l (OnMutex c) = nat_lt (mutex.mutex_of c) l.mutexes
is_in l (OnCondition c) = nat_lt (condition.condition_of c) (length l.conditions)

-- a thread may call so: what it names is the layout's, and its time limit, if it has one, is still to come
abbrev pub may_call : Layout' → Op → Bool
may_call l (OnMutex c) = is_in l (OnMutex c)
may_call l (OnCondition c) = is_in l (OnCondition c) && condition.is_ahead c

-- what it returns, where its accesses came to that reply: a wait that is out of time returns ETIMEDOUT instead of OK
abbrev pub reply_of : Op → Reply → Reply
reply_of (OnMutex c) x = x
reply_of (OnCondition c) x = condition.reply_of c x
