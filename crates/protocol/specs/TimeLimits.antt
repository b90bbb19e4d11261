-- Why a lock, or a wait, is out of time (pthread_mutex_timedlock(3p), pthread_cond_timedwait(3p)).
--
-- *A reason to be out of time.* A lock is told to be out of time only where another thread owned its mutex at some
-- moment since its begin was recorded. Of each thread, each mutex and every list of events: the law
-- `nobody_times_out_early`.
--
-- *Owned meanwhile.* Of facts that tell how a thread began a call, and what was recorded since: at the moment of the
-- begin, or after a later fact, another thread owned the mutex. Not the thread itself, not nobody, and nobody who
-- owned it only before. So much, and no less, is what `Chances` finds with any list of facts: the law
-- `waited_is_owned`.
--
-- *Late.* A thread's wait is late from its expiry, as that was noted, up to the thread's next begin. A wait with a time
-- limit returns ETIMEDOUT only where it is late, and OK only where it isn't. So one that was woken, or moved to its
-- mutex, before its limit came returns as a wait does; and one that is late returns ETIMEDOUT, unless its lock's reply is
-- another than OK (`Complete`). The law `late_waits_time_out`.
--
-- *Without limits.* Where no time limit comes, locks and waits with a limit are as those without one. No lock is told to
-- be out of time, so that none returns ETIMEDOUT; and if each had begun without its limit, every event would have been
-- noted as it was, except for the name of the operation in these begins, and each word and each queue would be the
-- same. So no wait returns ETIMEDOUT either. The law `without_expiries_as_before`.
use Rattle.std.specs.Prelude.{ℕ, ◌≡◌, ◌≢◌, ◌==◌, ◌↔◌, Bool, true, false, Some, List, [], ◌∷◌, ◌++◌, map, if◌then◌else◌}
use Rattle.lockword.specs.declared.reply.Reply.{Reply}
use Rattle.lockword.specs.declared.reply.Reply.TheVariants.{OK, ETIMEDOUT}
use Rattle.memorymap.specs.Layouts.{Layout', IsLayout}
use Rattle.posixmutex.specs.declared.object.Object.{Object}
use Rattle.posixmutex.specs.declared.point.Decision.{Decision}
use Rattle.posixmutex.specs.Objects.{fresh, stepped}
use Rattle.facts.specs.declared.fact.Begun.{Begun}
use Rattle.facts.specs.declared.fact.Fact.{Fact}
use Rattle.facts.specs.declared.fact.Fact.TheVariants.{Begin, Point, Return}
use Rattle.facts.specs.declared.fact.Queue.TheVariants.{Condition}
use Rattle.facts.specs.Chances.{TimeLimitsHaveReasons, chances_after, no_chances}
use Rattle.protocol.specs.declared.event.Event.{Event}
use Rattle.protocol.specs.declared.event.Event.TheVariants as event
use Rattle.protocol.specs.declared.event.Event.TheVariants.{Expire, Step}
use Rattle.protocol.specs.declared.note.Note.{Note}
use Rattle.protocol.specs.declared.note.Note.TheVariants.{Began, Expired}
use Rattle.protocol.specs.Notes.{facts_of}
use Rattle.condvar.specs.declared.op.Op.{Op}
use Rattle.condvar.specs.declared.op.Op.TheVariants.{OnMutex, OnCondition}
use Rattle.condvar.specs.declared.call.CondCall.{CondCall}
use Rattle.condvar.specs.declared.call.CondCall.TheVariants as cond_call
use Rattle.condvar.specs.declared.call.Limit.TheVariants.{Ahead}
use Rattle.mutex.specs.declared.call.Call.{Call}
use Rattle.mutex.specs.declared.call.Call.TheVariants as call
use Rattle.posixmutex.specs.declared.point.Operation.{Operation}
use Rattle.posixmutex.specs.declared.point.Operation.TheVariants as operation
use Rattle.protocol.specs.Machine.{State, start, happens, run, notes}
use Rattle.protocol.specs.Headline.{facts_among, points_of}
use Rattle.protocol.specs.PassedBy.{BeginsNone, call_told}
use Rattle.protocol.specs.Sleepers.{IsAmong}

-- whatever happens, with any values of the counters at the beginning
abbrev pub NobodyTimesOutEarly : Type 0
NobodyTimesOutEarly = (l : Layout') (counters : ℕ → ℕ) (events : List Event) → IsLayout l → (t m : ℕ)
    → TimeLimitsHaveReasons t m no_chances (facts_among (notes (start l counters) events))

-- ---- what it is to have waited

-- mutex m, with these points and deaths more
abbrev pub decided_after : ℕ → Object → List Decision → Object
decided_after m o [] = o
decided_after m o (d ∷ ds) = decided_after m (if d.mutex == m then stepped o d.thread d.operation d.reply else o) ds

-- as these facts tell of it, from when it was free
abbrev pub mutex_told : ℕ → List Fact → Object
mutex_told m fs = decided_after m fresh (points_of fs)

-- thread t began that call, and these facts were recorded since; at some moment of these another thread owned mutex
-- m: in the beginning, where nothing was recorded yet since the begin, or later
pub record OwnedMeanwhile (t m : ℕ) (before : List Fact) (call : Begun) (since : List Fact) : Type 0 where
  pub during : List Fact
  pub later : List Fact
  pub moment : since ≡ during ++ later
  pub owner : ℕ
  pub another : owner ≢ t
  pub owns : (mutex_told m (before ++ Begin t call ∷ during)).owner ≡ Some owner

-- whatever is recorded, as long as that is the thread's last call
abbrev pub WaitedIsOwned : Type 0
WaitedIsOwned = (t m : ℕ) (before : List Fact) (call : Begun) (since : List Fact) → BeginsNone t since
    → ((chances_after t m no_chances (before ++ Begin t call ∷ since)).waited ≡ true)
    ↔ OwnedMeanwhile t m before call since

-- ---- late waits

-- with one note more
abbrev pub late_next : ℕ → Bool → Note → Bool
late_next t late (Began u c refused) = if u == t then false else late
late_next t late (Expired u (Condition k)) = if u == t then true else late
late_next t late n = late

abbrev pub late_after : ℕ → Bool → List Note → Bool
late_after t late [] = late
late_after t late (n ∷ ns) = late_after t (late_next t late n) ns

-- by these notes thread t's time limit came while it slept on a condition variable, and it has begun no call since
abbrev pub is_late : ℕ → List Note → Bool
is_late t ns = late_after t false ns

-- after these events, where thread t is in a wait with a time limit, as that was recorded, its step returns
-- ETIMEDOUT only if it is late, and OK only if it isn't
abbrev pub RepliesByLimit : State → List Event → ℕ → Type 0
RepliesByLimit s events t = (b : Begun) (x : Reply) → call_told t (notes s events) ≡ Some b
    → b.operation ≡ operation.TimedWait → IsAmong (Return t x) (facts_of (happens (run s events) (Step t)).note)
    → (x ≡ ETIMEDOUT → is_late t (notes s events) ≡ true) × (x ≡ OK → is_late t (notes s events) ≡ false)

-- whatever happened, with any values of the counters at the beginning
abbrev pub LateWaitsTimeOut : Type 0
LateWaitsTimeOut = (l : Layout') (counters : ℕ → ℕ) (events : List Event) → IsLayout l → (t : ℕ)
    → RepliesByLimit (start l counters) events t

-- ---- where no time limit comes

-- it is another event than a time limit that comes
abbrev pub IsNoLimit : Event → Type 0
IsNoLimit (Expire t) = ⊥
IsNoLimit e = Unit {0}

-- so is each of these
abbrev pub NoLimitComes : List Event → Type 0
NoLimitComes [] = Unit {0}
NoLimitComes (e ∷ es) = IsNoLimit e × NoLimitComes es

-- a point isn't told to be out of time
abbrev pub IsInTime : Fact → Type 0
IsInTime (Point d) = d.reply ≢ ETIMEDOUT
IsInTime f = Unit {0}

-- nor is any of these
abbrev pub AreInTime : List Fact → Type 0
AreInTime [] = Unit {0}
AreInTime (f ∷ fs) = IsInTime f × AreInTime fs

-- a lock or a wait without its limit, and any other call as it is
abbrev pub unlimited_lock : Call → Call
unlimited_lock (call.TimedLock m) = call.Lock m
unlimited_lock c = c

abbrev pub unlimited_wait : CondCall → CondCall
unlimited_wait (cond_call.TimedWait k Ahead) = cond_call.Wait k
unlimited_wait c = c

abbrev pub unlimited : Op → Op
unlimited (OnMutex c) = OnMutex (unlimited_lock c)
unlimited (OnCondition c) = OnCondition (unlimited_wait c)

-- an event that begins it without the limit, and any other event as it is
abbrev pub unlimited_event : Event → Event
unlimited_event (event.Begin t o) = event.Begin t (unlimited o)
unlimited_event e = e

-- the note of that
abbrev pub untimed : Operation → Operation
untimed operation.TimedLock = operation.Lock
untimed operation.TimedWait = operation.Wait
untimed op = op

abbrev pub unlimited_note : Note → Note
unlimited_note (Began t c refused) = Began t (record c { operation = untimed c.operation }) refused
unlimited_note n = n

-- no lock is out of time; and if each had begun without its limit, then all would have been noted as it was, except
-- for the names of these begins, each word would be the same, and each queue
pub record AsWithoutLimits (s : State) (events : List Event) : Type 0 where
  pub in_time : AreInTime (facts_among (notes s events))
  pub noted : notes s (map unlimited_event events) ≡ map unlimited_note (notes s events)
  pub words : (p : ℕ) → (run s (map unlimited_event events)).words p ≡ (run s events).words p
  pub queues : (key : ℕ) → (run s (map unlimited_event events)).queues key ≡ (run s events).queues key

-- whatever else happens, with any values of the counters at the beginning
abbrev pub LocksWithoutLimits : Type 0
LocksWithoutLimits = (l : Layout') (counters : ℕ → ℕ) (events : List Event) → IsLayout l → NoLimitComes events
    → AsWithoutLimits (start l counters) events
