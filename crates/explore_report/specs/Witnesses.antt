-- The script of an outcome: a run that has it, for `rfx run`.
use Rattle.std.specs.Prelude.{ℕ, ◌+◌, ◌-◌, ◌==◌, ◌&&◌, Bool, true, false, List, [], ◌∷◌, ◌++◌, codes, decimal, length}
use Rattle.std.specs.Prelude.{nat_lt, get_or, slice_get, Option, Some, None, if◌then◌else◌}
use Rattle.std.specs.List.{concat, flat_map, range_with_len}
use Rattle.condvar.specs.declared.call.CondCall.{CondCall}
use Rattle.condvar.specs.declared.call.CondCall.TheVariants as cond
use Rattle.condvar.specs.declared.op.Op.{Op}
use Rattle.condvar.specs.declared.op.Op.TheVariants.{OnMutex, OnCondition}
use Rattle.mutex.specs.declared.call.Call.{Call}
use Rattle.mutex.specs.declared.call.Call.TheVariants as call
use Rattle.protocol.specs.declared.event.Event.{Event}
use Rattle.protocol.specs.declared.event.Event.TheVariants as event
use Rattle.script.specs.declared.command.Condition.{Condition}
use Rattle.script.specs.Limits.{max_steps}
use Rattle.script.specs.Scope.{Scope}
use Rattle.explore_report.specs.declared.witness.Steps.{Steps}
use Rattle.explore_report.specs.Texts.{condition_name, name_at, text_at}

-- ---- declarations

-- processes are called p1, p2 and so on
abbrev pub process_line : ℕ → ℕ → List ℕ
process_line p base = concat (codes "process p" ∷ decimal p ∷ codes " " ∷ decimal base ∷ codes "\n" ∷ [])

abbrev pub process_at : Scope → ℕ → List ℕ
process_at s i = text_at (λ p. process_line (i + 1) p.1) (slice_get s.processes i)

abbrev pub member_text : ℕ → List ℕ
member_text p = if p == 0 then concat (codes "\n" ∷ []) else concat (codes " p" ∷ decimal p ∷ codes "\n" ∷ [])

abbrev pub member_at : Option ℕ → List ℕ
member_at None = member_text 0
member_at (Some p) = member_text p

abbrev pub thread_line : Scope → ℕ → List ℕ
thread_line s i = concat (codes "thread " ∷ name_at s.threads i ∷ []) ++ member_at (slice_get s.members i)

abbrev pub mutex_line : Scope → ℕ → List ℕ
mutex_line s m = concat (codes "mutex " ∷ name_at s.mutexes m ∷ codes "\n" ∷ [])

abbrev pub condition_line : Scope → List ℕ × Condition → List ℕ
condition_line s c = concat (codes "cond " ∷ c.0 ∷ codes " " ∷ name_at s.mutexes c.1.mutex ∷ codes " "
    ∷ decimal c.1.counter ∷ codes "\n" ∷ [])

abbrev pub condition_at : Scope → ℕ → List ℕ
condition_at s k = text_at (condition_line s) (slice_get s.conditions k)

abbrev pub declarations : Scope → List ℕ
declarations s =
    flat_map (process_at s) (range_with_len 0 (length s.processes))
    ++ (flat_map (thread_line s) (range_with_len 0 (length s.threads))
    ++ (flat_map (mutex_line s) (range_with_len 0 (length s.mutexes))
    ++ flat_map (condition_at s) (range_with_len 0 (length s.conditions))))

-- ---- events

abbrev pub mutex_call : Scope → Call → List ℕ
mutex_call s (call.Lock m) = concat (codes " lock " ∷ name_at s.mutexes m ∷ codes "\n" ∷ [])
mutex_call s (call.TryLock m) = concat (codes " trylock " ∷ name_at s.mutexes m ∷ codes "\n" ∷ [])
mutex_call s (call.TimedLock m) = concat (codes " timedlock " ∷ name_at s.mutexes m ∷ codes "\n" ∷ [])
mutex_call s (call.Unlock m) = concat (codes " unlock " ∷ name_at s.mutexes m ∷ codes "\n" ∷ [])
mutex_call s (call.Consistent m) = concat (codes " consistent " ∷ name_at s.mutexes m ∷ codes "\n" ∷ [])

abbrev pub condition_call : Scope → CondCall → List ℕ
condition_call s (cond.Wait k) = concat (codes " wait " ∷ condition_name s k ∷ codes "\n" ∷ [])
condition_call s (cond.TimedWait k x) = concat (codes " timedwait " ∷ condition_name s k ∷ codes "\n" ∷ [])
condition_call s (cond.Signal k) = concat (codes " signal " ∷ condition_name s k ∷ codes "\n" ∷ [])
condition_call s (cond.Broadcast k) = concat (codes " broadcast " ∷ condition_name s k ∷ codes "\n" ∷ [])

abbrev pub call_text : Scope → Op → List ℕ
call_text s (OnMutex c) = mutex_call s c
call_text s (OnCondition c) = condition_call s c

abbrev pub thread_name : Scope → ℕ → List ℕ
thread_name s t = name_at s.threads (t - 1)

abbrev pub command_line : Scope → List ℕ → ℕ → List ℕ
command_line s word t = concat (word ∷ thread_name s t ∷ codes "\n" ∷ [])

abbrev pub steps_line : Scope → ℕ → ℕ → List ℕ
steps_line s t n = concat (codes "step " ∷ thread_name s t ∷ codes " " ∷ decimal n ∷ codes "\n" ∷ [])

abbrev pub event_line : Scope → Event → List ℕ
event_line s (event.Begin t o) = concat (codes "begin " ∷ thread_name s t ∷ []) ++ call_text s o
event_line s (event.Step t) = steps_line s t 1
event_line s (event.Kill t) = command_line s (codes "kill ") t
event_line s (event.Leave t) = command_line s (codes "leave ") t
event_line s (event.Expire t) = command_line s (codes "expire ") t
event_line s (event.Decline t) = command_line s (codes "decline ") t
event_line s (event.Renew t) = command_line s (codes "renew ") t
event_line s (event.Remake t m) =
    concat (codes "remake " ∷ thread_name s t ∷ codes " " ∷ name_at s.mutexes m ∷ codes "\n" ∷ [])
event_line s (event.Spare t by) = command_line s (codes "spare ") t

abbrev pub steps_text : Scope → Option Steps → List ℕ
steps_text s None = []
steps_text s (Some p) = steps_line s p.thread p.count

-- one step more of a thread: what has to have its line now, and what is left
abbrev pub one_more : ℕ → Option Steps → Option Steps × Option Steps
one_more t None = (None, Some (record { thread = t; count = 1 }))
one_more t (Some p) =
    if (p.thread == t) && nat_lt p.count max_steps
    then (None, Some (record { thread = t; count = p.count + 1 }))
    else (Some p, Some (record { thread = t; count = 1 }))

-- the lines of events, steps of one thread after each other in one line
abbrev pub events_text : Scope → Option Steps → List Event → List ℕ
events_text s left [] = steps_text s left
events_text s left (event.Step t ∷ es) = steps_text s (one_more t left).0 ++ events_text s (one_more t left).1 es
events_text s left (e ∷ es) = (steps_text s left ++ event_line s e) ++ events_text s None es

abbrev pub script_text : Scope → List Event → List ℕ
script_text s es = declarations s ++ events_text s None es
