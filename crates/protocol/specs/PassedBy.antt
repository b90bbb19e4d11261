-- Whom a signal or a broadcast passes by: nobody (pthread_cond_signal(3p), pthread_cond_broadcast(3p)).
--
-- *Passed by.* A wait is passed by where its thread released its mutex, at a later event a signal or a broadcast
-- counted on the condition variable, and at a later one still the thread, which had begun no other call, fell asleep
-- there. No wait is. The event at which a signal returns OK wakes the first of its condition variable's queue, and
-- nobody only where that was empty; the one at which a broadcast does moves all of it, in its order, and leaves nobody
-- there; nothing else is recorded of these events but the return. The law `nobody_is_passed_by` states it of every
-- layout and list of events, with counters that are at most 2^32 - 1 at the beginning. Source:
-- pthread_cond_signal(3p), pthread_cond_broadcast(3p).
--
-- *No counter wraps.* A wait tells by the counter's value whether a signal came since it looked, so no count may bring
-- back a value that a waiter has seen. If no counter is above 2^32 - 1 at the beginning, none does: at 2^32 - 1 a
-- signal and a broadcast are refused, and count no more (X_FULL). A counter that continued from 0 would need one more
-- premise: that no waiter is stopped, between its look and its sleep, for 2^32 signals.
use Rattle.std.specs.Prelude.{ℕ, ◌≡◌, ◌≢◌, ◌≤◌, ◌==◌, Option, Some, None, List, [], ◌∷◌, ◌++◌, map, take, if◌then◌else◌}
use Rattle.lockword.specs.declared.reply.Reply.{Reply}
use Rattle.lockword.specs.declared.reply.Reply.TheVariants.{OK}
use Rattle.posixmutex.specs.declared.point.Operation.{Operation}
use Rattle.posixmutex.specs.declared.point.Operation.TheVariants.{Unlock, Signal, Broadcast}
use Rattle.posixmutex.specs.declared.point.Decision.{Decision}
use Rattle.memorymap.specs.Layouts.{Layout', IsLayout}
use Rattle.condvar.specs.Laws.{largest_counter}
use Rattle.facts.specs.declared.fact.Begun.{Begun}
use Rattle.facts.specs.declared.fact.Queue.TheVariants.{Condition}
use Rattle.facts.specs.declared.fact.Fact.{Fact}
use Rattle.facts.specs.declared.fact.Fact.TheVariants.{Begin, Point, Sleep, Wake, Return}
use Rattle.protocol.specs.declared.event.Event.{Event}
use Rattle.protocol.specs.declared.event.Event.TheVariants.{Step}
use Rattle.protocol.specs.declared.note.Note.{Note}
use Rattle.protocol.specs.Notes.{facts_of, moves_to}
use Rattle.protocol.specs.Ops.{queue_place}
use Rattle.protocol.specs.Machine.{State, start, happens, run, notes}
use Rattle.protocol.specs.Headline.{facts_among}
use Rattle.protocol.specs.Sleepers.{IsAmong}

-- ---- what a trace tells of calls

-- the call that thread t began last, as it was recorded; before these facts it was c
abbrev pub last_begun : ℕ → Option Begun → List Fact → Option Begun
last_begun t c [] = c
last_begun t c (Begin u b ∷ fs) = last_begun t (if u == t then Some b else c) fs
last_begun t c (f ∷ fs) = last_begun t c fs

-- by these notes
abbrev pub call_told : ℕ → List Note → Option Begun
call_told t ns = last_begun t None (facts_among ns)

-- thread t begins none
abbrev pub BeginsNone : ℕ → List Fact → Type 0
BeginsNone t [] = Unit {0}
BeginsNone t (Begin u b ∷ fs) = (u ≢ t) × BeginsNone t fs
BeginsNone t (f ∷ fs) = BeginsNone t fs

-- ---- counts

-- a signal or a broadcast counts where it isn't refused
abbrev pub Counts : Operation → Reply → Type 0
Counts Signal OK = Unit {0}
Counts Broadcast OK = Unit {0}
Counts op x = ⊥

-- a call, as it was recorded, is on condition variable k
abbrev pub IsOn : ℕ → Option Begun → Type 0
IsOn k None = ⊥
IsOn k (Some b) = b.condition ≡ Some k

-- thread t released a mutex; at a later event a signal or a broadcast counted on condition variable k; and at a later
-- one t fell asleep there, where it didn't sleep, and had begun no other call. So its wait was passed by
pub record IsPassedBy (t k : ℕ) (told : List Note) : Type 0 where
  pub before : List Note
  pub release : Note
  pub between : List Note
  pub count : Note
  pub later : List Note
  pub sleep : Note
  pub rest : List Note
  pub told_so : told ≡ before ++ release ∷ (between ++ count ∷ (later ++ sleep ∷ rest))
  pub mutex : ℕ
  pub releases : IsAmong (Point (record { thread = t; mutex = mutex; operation = Unlock; reply = OK }))
      (facts_of release)
  pub point : Decision
  pub counts : IsAmong (Point point) (facts_of count) × Counts point.operation point.reply
      × IsOn k (call_told point.thread (before ++ release ∷ between))
  pub sleeps : IsAmong (Sleep t (Condition k)) (facts_of sleep)
  pub same_call : BeginsNone t (facts_among (between ++ count ∷ later))

-- ---- wakes and moves

-- at this event a call of thread t, as it was recorded, of this operation on condition variable k, returns OK
pub record ReturnsOk (s : State) (events before after : List Event) (t k : ℕ) (b : Begun) (op : Operation) : Type 0
  where
    pub happened : events ≡ before ++ Step t ∷ after
    pub told : call_told t (notes s before) ≡ Some b
    pub operation : b.operation ≡ op
    pub condition : b.condition ≡ Some k
    pub returns : IsAmong (Return t OK) (facts_of (happens (run s before) (Step t)).note)

-- who stood in the queue of condition variable k after these events
abbrev pub waiters_of : State → List Event → ℕ → List ℕ
waiters_of s before k = (run s before).queues (queue_place s.layout (Condition k))

-- the event at which a signal returns OK woke the first of its condition variable's queue, as that was before it, and
-- nobody only where it was empty; nothing else is recorded of the event
abbrev pub WakesFirst : State → List Event → Type 0
WakesFirst s events = (before after : List Event) (t k : ℕ) (b : Begun) → ReturnsOk s events before after t k b Signal
    → facts_of (happens (run s before) (Step t)).note ≡ map Wake (take 1 (waiters_of s before k)) ++ Return t OK ∷ []

-- the event at which a broadcast returns OK moved, in their order, all who stood in its condition variable's queue
-- before it; nothing else is recorded of the event, and nobody is there directly after it
abbrev pub MovesAll : State → List Event → Type 0
MovesAll s events = (before after : List Event) (t k : ℕ) (b : Begun) → ReturnsOk s events before after t k b Broadcast
    → (facts_of (happens (run s before) (Step t)).note
    ≡ map (moves_to b.mutex) (waiters_of s before k) ++ Return t OK ∷ [])
    × ((happens (run s before) (Step t)).state.queues (queue_place s.layout (Condition k)) ≡ [])

-- ---- runs

pub record PassesNobody (s : State) (events : List Event) : Type 0 where
  pub counted : (t k : ℕ) → ¬ IsPassedBy t k (notes s events)
  pub woken : WakesFirst s events
  pub moved : MovesAll s events

-- no counter is above its largest value at the beginning
abbrev pub ArePresets : (ℕ → ℕ) → Type 0
ArePresets counters = (k : ℕ) → counters k ≤ largest_counter

-- whatever happens, with any such values of the counters at the beginning
abbrev pub NobodyIsPassedBy : Type 0
NobodyIsPassedBy = (l : Layout') (counters : ℕ → ℕ) (events : List Event) → IsLayout l → ArePresets counters
    → PassesNobody (start l counters) events
