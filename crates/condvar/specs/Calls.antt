-- Calls on condition variables.
--
-- *A wait with a time limit.* It is a wait: the same accesses, the same points. Its time limit may come while it sleeps on
-- its condition variable. Then it locks its mutex again, as one that was woken does, and where that lock replies OK it
-- returns ETIMEDOUT instead, as the owner. EOWNERDEAD and ENOTRECOVERABLE it returns as any wait. Source:
-- pthread_cond_timedwait(3p).
use Rattle.std.specs.Prelude.{ℕ, Bool, true, false, Option, Some, None}
use Rattle.lockword.specs.declared.reply.Reply.{Reply}
use Rattle.lockword.specs.declared.reply.Reply.TheVariants.{OK, ETIMEDOUT}
use Rattle.posixmutex.specs.declared.point.Operation.{Operation}
use Rattle.posixmutex.specs.declared.point.Operation.TheVariants as operation
use Rattle.condvar.specs.declared.call.CondCall.{CondCall}
use Rattle.condvar.specs.declared.call.CondCall.TheVariants.{Wait, TimedWait, Signal, Broadcast}
use Rattle.condvar.specs.declared.call.Limit.TheVariants.{Past}

abbrev pub condition_of : CondCall → ℕ
condition_of (Wait c) = c
condition_of (TimedWait c x) = c
condition_of (Signal c) = c
condition_of (Broadcast c) = c

abbrev pub operation_of : CondCall → Operation
operation_of (Wait c) = operation.Wait
operation_of (TimedWait c x) = operation.TimedWait
operation_of (Signal c) = operation.Signal
operation_of (Broadcast c) = operation.Broadcast

-- what its accesses do to its mutex: one with a time limit is a wait
abbrev pub acts_as : CondCall → Operation
acts_as (TimedWait c x) = operation.Wait
acts_as c = operation_of c

-- a wait with a time limit, once that has come
abbrev pub expired : CondCall → Option CondCall
expired (TimedWait c x) = Some (TimedWait c Past)
expired c = None

-- its time limit, if it has one, is still to come: every call begins so
abbrev pub is_ahead : CondCall → Bool
is_ahead (TimedWait c Past) = false
is_ahead c = true

-- what it returns, where its accesses came to that reply
abbrev pub reply_of : CondCall → Reply → Reply
reply_of (TimedWait c Past) OK = ETIMEDOUT
reply_of c x = x
