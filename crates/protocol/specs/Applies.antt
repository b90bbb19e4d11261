-- Which events apply, by what the trace has told so far.
--
-- *Which events apply.* By what the trace has told of its thread: a begin where that lives, is in no call, and the
-- mutex or condition variable is one of the layout; a step where it is in a call, or killed and not reaped, and sleeps
-- nowhere; a kill where it lives; a leave where it stands in a queue; an expiry where it does so in a call that was
-- recorded as a lock with a time limit, or in its condition variable's queue in one that was recorded as a wait with
-- a time limit (`IsTold`); a decline where its next access is a trim (`IsAboutToTrim`); a renewal where it was
-- reaped, and hasn't been renewed since; a remake where it lives and is in no call, and the mutex, one of the
-- layout, is unusable; a spare (`IsSparedAccessOf`) where it happens. Such an event is noted as what it is, every
-- other as nothing, and that changes nothing: the law `events_apply`.
use Rattle.std.specs.Prelude.{ℕ, length, ◌≡◌, ◌⊎◌, ◌<◌, ◌≤◌, ◌==◌, ◌&&◌, nat_le, true}
use Rattle.std.specs.Prelude.{false, Option, Some, None, List, [], ◌∷◌, if◌then◌else◌}
use Rattle.lockword.specs.declared.reply.Reply.{Reply}
use Rattle.lockword.specs.declared.reply.Reply.TheVariants.{XHELD}
use Rattle.memorymap.specs.Layouts.{Layout', IsLayout}
use Rattle.posixmutex.specs.Histories.{held_by}
use Rattle.posixmutex.specs.Objects.{held_limit, acquires}
use Rattle.mutex.specs.Calls as mutex
use Rattle.mutex.specs.declared.call.Call.TheVariants as call
use Rattle.condvar.specs.Calls as condition
use Rattle.condvar.specs.declared.call.CondCall.TheVariants as cond_call
use Rattle.condvar.specs.declared.call.Limit.{Limit}
use Rattle.condvar.specs.Ops.{operation_of, mutex_of}
use Rattle.protocol.specs.Ops.{begun_of}
use Rattle.protocol.specs.PassedBy.{call_told}
use Rattle.condvar.specs.declared.op.Op.{Op}
use Rattle.condvar.specs.declared.op.Op.TheVariants.{OnMutex, OnCondition}
use Rattle.protocol.specs.declared.event.Event.{Event}
use Rattle.protocol.specs.declared.event.Event.TheVariants as event
use Rattle.protocol.specs.declared.note.Note.{Note}
use Rattle.protocol.specs.declared.note.Note.TheVariants.{Nothing, Began, Stepped, Killed}
use Rattle.protocol.specs.declared.note.Note.TheVariants.{Walked, Left, Expired, Renewed, Reinited}
use Rattle.facts.specs.declared.fact.Begun.{Begun}
use Rattle.facts.specs.declared.fact.Queue.TheVariants.{Mutex, Condition}
use Rattle.facts.specs.declared.fact.Fact.{Fact}
use Rattle.facts.specs.declared.fact.Fact.TheVariants.{Begin, Return, Kill, Reap, Renew}
use Rattle.stepprograms.specs.declared.access.Access.TheVariants.{Trim}
use Rattle.mutex.specs.Standings.{Whole}
use Rattle.condvar.specs.Standings.{CondWhole}
use Rattle.condvar.specs.declared.call.CondCall.{CondCall}
use Rattle.mutex.specs.Whole.{whole_access}
use Rattle.protocol.specs.declared.thread.Stage.{Stage}
use Rattle.protocol.specs.declared.thread.Stage.TheVariants.{Idle, Calling, AtCondition, Dying, Reaped}
use Rattle.protocol.specs.Machine.{State, start, happens, run, notes, stands_in}
use Rattle.protocol.specs.Headline.{seen, facts_among}
use Rattle.protocol.specs.Sleepers.{StandsIn}
use Rattle.protocol.specs.Spares.{MaySpare}

-- ---- what a trace told of a thread

-- it is in no call; it began one that hasn't returned; it was killed; it was reaped
pub data Told : Type 0 where
  AtRest : Told
  InCall : Told
  Dead : Told
  Gone : Told

-- with one fact more
abbrev pub told_next : ℕ → Told → Fact → Told
told_next t w (Begin u c) = if u == t then InCall else w
told_next t w (Return u x) = if u == t then AtRest else w
told_next t w (Kill u) = if u == t then Dead else w
told_next t w (Reap u) = if u == t then Gone else w
told_next t w (Renew u) = if u == t then AtRest else w
told_next t w f = w

abbrev pub told_after : ℕ → Told → List Fact → Told
told_after t w [] = w
told_after t w (f ∷ fs) = told_after t (told_next t w f) fs

-- of a thread of which nothing is recorded it is at rest, and after its renewal too
abbrev pub last_told : ℕ → List Note → Told
last_told t ns = told_after t AtRest (facts_among ns)

-- no kill of it was recorded
abbrev pub IsLiving : Told → Type 0
IsLiving AtRest = Unit {0}
IsLiving InCall = Unit {0}
IsLiving w = ⊥

-- it has a next access: its call's, or its walk's
abbrev pub HasAccess : Told → Type 0
HasAccess InCall = Unit {0}
HasAccess Dead = Unit {0}
HasAccess w = ⊥

-- where a thread stands of which that was recorded
abbrev pub Agrees : Told → Stage → Type 0
Agrees AtRest Idle = Unit {0}
Agrees InCall (Calling o p) = Unit {0}
Agrees InCall (AtCondition c p) = Unit {0}
Agrees Dead (Dying w) = Unit {0}
Agrees Gone Reaped = Unit {0}
Agrees w g = ⊥

-- a thread that is in a call is in the one that was recorded: with its operation, its mutex and its condition
-- variable
abbrev pub IsTold : Layout' → Stage → Option Begun → Type 0
IsTold l (Calling o p) b = b ≡ Some (begun_of l o)
IsTold l (AtCondition c p) b = b ≡ Some (begun_of l (OnCondition c))
IsTold l g b = Unit {0}

-- ---- events

abbrev pub IsThread : Layout' → ℕ → Type 0
IsThread l t = (1 ≤ t) × (t ≤ l.threads)

abbrev pub IsInNoQueue : State → ℕ → Type 0
IsInNoQueue s t = (key : ℕ) → stands_in t (s.queues key) ≡ false

-- what a call names is the layout's
abbrev pub Names : Layout' → Op → Type 0
Names l (OnMutex c) = mutex.mutex_of c < l.mutexes
Names l (OnCondition c) = condition.condition_of c < length l.conditions

-- a wait with a time limit begins while that is still to come
abbrev pub BeginsAhead : Op → Type 0
BeginsAhead (OnMutex c) = Unit {0}
BeginsAhead (OnCondition c) = condition.is_ahead c ≡ true

abbrev pub IsInAQueue : State → ℕ → Type 0
IsInAQueue s t = (key : ℕ) × (stands_in t (s.queues key) ≡ true)

-- the next access of thread t's call is a trim
abbrev pub IsAboutToTrim : State → ℕ → Type 0
IsAboutToTrim s t = (o : Op) × (p : Whole) × (at : ℕ) × ((s.threads t).stage ≡ Calling o p) × (whole_access p ≡ Trim at)

-- thread t is in a lock of mutex m that has a time limit
abbrev pub IsInTimedLock : State → ℕ → ℕ → Type 0
IsInTimedLock s t m = (p : Whole) × ((s.threads t).stage ≡ Calling (OnMutex (call.TimedLock m)) p)

-- thread t is in a wait on condition variable k that has a time limit, and has unlocked its mutex
abbrev pub IsInTimedWait : State → ℕ → ℕ → Type 0
IsInTimedWait s t k = (x : Limit) × (p : Whole) × ((s.threads t).stage ≡ Calling (OnCondition (cond_call.TimedWait k x)) p)

-- its time limit may come: it sleeps in such a lock, or in such a wait on the condition variable
abbrev pub SleepsInTimedLock : State → ℕ → Type 0
SleepsInTimedLock s t = IsInAQueue s t × ((m : ℕ) × IsInTimedLock s t m)

abbrev pub SleepsInTimedWait : State → ℕ → Type 0
SleepsInTimedWait s t = (k : ℕ) × StandsIn s t (Condition k) × IsInTimedWait s t k

-- a begin applies where its thread lives, is in no call, and what it calls is in the layout; a step where its thread is
-- in a call, or was killed and not reaped, and sleeps on nothing; a kill where its thread lives; a leave where it
-- sleeps; an expiry where it sleeps in a lock with a time limit, or on a condition variable in a wait with one; a
-- decline where it is about to trim; a renewal where its thread was reaped; a remake where its thread lives and is in
-- no call, and its mutex, one of the layout, is unusable; a spare where its thread is about to wake one of a mutex, for
-- which another answers
abbrev pub Applies : Layout' → State → List Note → Event → Type 0
Applies l s ns (event.Begin t o) = IsThread l t × Names l o × BeginsAhead o × (last_told t ns ≡ AtRest)
Applies l s ns (event.Step t) = IsThread l t × HasAccess (last_told t ns) × IsInNoQueue s t
Applies l s ns (event.Kill t) = IsThread l t × IsLiving (last_told t ns)
Applies l s ns (event.Leave t) = IsThread l t × IsInAQueue s t
Applies l s ns (event.Expire t) = IsThread l t × (SleepsInTimedLock s t ⊎ SleepsInTimedWait s t)
Applies l s ns (event.Decline t) = IsThread l t × IsAboutToTrim s t
Applies l s ns (event.Renew t) = IsThread l t × (last_told t ns ≡ Gone)
Applies l s ns (event.Remake t m) =
    IsThread l t × (last_told t ns ≡ AtRest) × (m < l.mutexes) × ((seen s m).unusable ≡ true)
Applies l s ns (event.Spare t by) = IsThread l t × MaySpare s t by

-- a call that takes a mutex is refused at once where its thread owns 2,048
abbrev pub refusal : Layout' → State → ℕ → Op → Option Reply
refusal l s t o =
    if acquires (operation_of o) && nat_le held_limit (held_by t (seen s) l.mutexes) then Some XHELD else None

-- an access of thread t, of its call or of its walk
abbrev pub IsAccessOf : ℕ → Note → Type 0
IsAccessOf t (Stepped u m point slept woken moved returned) = u ≡ t
IsAccessOf t (Walked u death woken reaped) = u ≡ t
IsAccessOf t n = ⊥

-- an access of the call in which thread t stands, on that call's mutex, that decided nothing, returned nothing, and by
-- which nobody fell asleep, was woken or was moved
abbrev pub IsQuietAccessOf : Layout' → State → ℕ → Note → Type 0
IsQuietAccessOf l s t n =
    (o : Op) (p : Whole) → (s.threads t).stage ≡ Calling o p → n ≡ Stepped t (mutex_of l o) None None [] [] None

-- so it is of a call on a condition variable too
abbrev pub IsSparedAccessOf : Layout' → State → ℕ → Note → Type 0
IsSparedAccessOf l s t n = IsQuietAccessOf l s t n
    × ((c : CondCall) (p : CondWhole) → (s.threads t).stage ≡ AtCondition c p
    → n ≡ Stepped t (mutex_of l (OnCondition c)) None None [] [] None)

-- an event that applies is noted as what it is
abbrev pub IsNotedAs : Layout' → State → Event → Note → Type 0
IsNotedAs l s (event.Begin t o) n = n ≡ Began t (begun_of l o) (refusal l s t o)
IsNotedAs l s (event.Step t) n = IsAccessOf t n
IsNotedAs l s (event.Kill t) n = n ≡ Killed t
IsNotedAs l s (event.Leave t) n = n ≡ Left t
IsNotedAs l s (event.Expire t) n = ((m : ℕ) → IsInTimedLock s t m → n ≡ Expired t (Mutex m))
    × ((k : ℕ) → IsInTimedWait s t k → n ≡ Expired t (Condition k))
IsNotedAs l s (event.Decline t) n = IsQuietAccessOf l s t n
IsNotedAs l s (event.Renew t) n = n ≡ Renewed t
IsNotedAs l s (event.Remake t m) n = n ≡ Reinited t m
IsNotedAs l s (event.Spare t by) n = IsSparedAccessOf l s t n

-- of a state that events lead to that were noted so: its layout is as it was, and each thread stands where it was recorded
-- to stand, and is in the call whose begin was recorded last; whatever event comes next, it happens where it
-- applies, and else it does nothing
pub record NextApplies (l : Layout') (s : State) (ns : List Note) : Type 0 where
  pub layout : s.layout ≡ l
  pub stands : (t : ℕ) → IsThread l t → Agrees (last_told t ns) (s.threads t).stage
  pub call : (t : ℕ) → IsThread l t → IsTold l (s.threads t).stage (call_told t ns)
  pub happens_so : (e : Event) → Applies l s ns e → IsNotedAs l s e (happens s e).note
  pub else_nothing : (e : Event) → ¬ Applies l s ns e → ((happens s e).note ≡ Nothing) × ((happens s e).state ≡ s)

-- whatever happens, with any values of the counters at the beginning
abbrev pub EventsApply : Type 0
EventsApply = (l : Layout') (counters : ℕ → ℕ) (events : List Event) → IsLayout l
    → NextApplies l (run (start l counters) events) (notes (start l counters) events)
