-- A call in progress, on a mutex or on a condition variable: its next access, and where an answer leads it.
use Rattle.std.specs.Prelude.{ℕ}
use Rattle.stepprograms.specs.declared.access.Access.{Access}
use Rattle.stepprograms.specs.declared.access.Answer.{Answer}
use Rattle.stepprograms.specs.declared.program.Progress.{Progress}
use Rattle.mutex.specs.Whole.{whole_access, whole_led, whole_moved, whole_progress, IsUnderWay}
use Rattle.condvar.specs.Calls.{condition_of}
use Rattle.condvar.specs.Whole as condition
use Rattle.condvar.specs.declared.op.Op.{Op}
use Rattle.condvar.specs.declared.op.Op.TheVariants.{OnCondition}
use Rattle.facts.specs.declared.fact.Queue.{Queue}
use Rattle.facts.specs.declared.fact.Queue.TheVariants.{Mutex, Condition}
use Rattle.protocol.specs.declared.thread.Stage.{Stage}
use Rattle.protocol.specs.declared.thread.Stage.TheVariants as stage
use Rattle.protocol.specs.Machine.{Led, led, led_at}
use Rattle.interleave.specs.Perform.{replying, stage_in, stage_at_in}
use Rattle.interleave.specs.declared.calls.InCall.{InCall}
use Rattle.interleave.specs.declared.calls.InCall.TheVariants.{Calling, AtCondition}

-- where its thread stands
abbrev pub stage_of : InCall → Stage
stage_of (Calling o p) = stage.Calling o p
stage_of (AtCondition c p) = stage.AtCondition c p

-- it hasn't returned
abbrev pub IsGoing : InCall → Type 0
IsGoing (Calling o p) = IsUnderWay p.phase
IsGoing (AtCondition c p) = condition.IsUnderWay p.phase

-- what its thread called
abbrev pub op_of : InCall → Op
op_of (Calling o p) = o
op_of (AtCondition c p) = OnCondition c

-- the queue that its thread comes to be in if it falls asleep, m being its mutex
abbrev pub queue_in : ℕ → InCall → Queue
queue_in m (Calling o p) = Mutex m
queue_in m (AtCondition c p) = Condition (condition_of c)

-- the access that comes next
abbrev pub access_of : InCall → Access
access_of (Calling o p) = whole_access p
access_of (AtCondition c p) = condition.cond_access p

-- where an answer leads it: by the machine's definition
abbrev pub led_by : InCall → Answer → Led
led_by (Calling o p) x = led o p (whole_led p x)
led_by (AtCondition c p) x = led_at c p (condition.cond_led p x)

-- and as its program and its call tell it
abbrev pub progress_behind : InCall → Answer → Progress
progress_behind (Calling o p) x = replying o (whole_progress p (whole_led p x))
progress_behind (AtCondition c p) x = condition.cond_progress (condition.cond_led p x)

abbrev pub stage_behind : InCall → Answer → Stage
stage_behind (Calling o p) x =
    stage_in o (whole_moved p (whole_led p x)) (replying o (whole_progress p (whole_led p x)))
stage_behind (AtCondition c p) x =
    stage_at_in c (condition.cond_moved p (condition.cond_led p x)) (condition.cond_progress (condition.cond_led p x))
