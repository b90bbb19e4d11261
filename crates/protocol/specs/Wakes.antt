-- Whom an event wakes or moves (pthread_mutex_unlock(3p), pthread_cond_signal(3p), pthread_cond_broadcast(3p);
-- pthread_mutexattr_getrobust(3p), for ENOTRECOVERABLE; robust-futexes).
--
-- *Whom an event wakes.* A step of a thread in a call tells the wakes of nobody, or of just those whom the call is to
-- wake, as it was recorded: the first of its mutex's queue, or all of that, in its order, where the mutex was
-- unusable directly after the event of the call's last point (`left_by`), and nobody before it has had one; of a
-- signal the first of its condition variable's queue; of a trylock, a declaration and a broadcast nobody. It tells
-- the moves of nobody, or of a broadcast those of all its condition variable's queue to its mutex's. A step of a
-- dead thread's walk tells the wake of nobody, or of the first of a mutex's queue; a leave and an expiry tell the
-- wake of their own thread or none, and no move (`WakesItself`); a begin, a kill, a decline and a spare tell no wake
-- and no move. Of every state that events lead to: the law `wakes_are_right`. Source: pthread_mutex_unlock(3p),
-- pthread_cond_signal(3p), pthread_cond_broadcast(3p), pthread_mutexattr_getrobust(3p), robust-futexes.
use Rattle.std.specs.Prelude.{ℕ, ◌≡◌, ◌<◌, ◌==◌, ◌⊎◌, Option, Some, None, List, [], ◌∷◌, map, take, if◌then◌else◌}
use Rattle.posixmutex.specs.declared.object.Object.{Object}
use Rattle.posixmutex.specs.declared.point.Operation.{Operation}
use Rattle.posixmutex.specs.declared.point.Operation.TheVariants.{Lock, TimedLock, Unlock, Wait, TimedWait}
use Rattle.posixmutex.specs.declared.point.Operation.TheVariants.{Signal, Broadcast}
use Rattle.memorymap.specs.Layouts.{Layout', IsLayout}
use Rattle.facts.specs.declared.fact.Begun.{Begun}
use Rattle.facts.specs.declared.fact.Queue.TheVariants.{Condition}
use Rattle.facts.specs.declared.fact.Fact.{Fact}
use Rattle.facts.specs.declared.fact.Fact.TheVariants.{Begin, Point, Wake, Move}
use Rattle.protocol.specs.declared.event.Event.{Event}
use Rattle.protocol.specs.declared.event.Event.TheVariants as event
use Rattle.protocol.specs.Notes.{facts_of, moves_to}
use Rattle.protocol.specs.Ops.{queue_place}
use Rattle.protocol.specs.Machine.{State, start, happens, run, notes, sleepers}
use Rattle.protocol.specs.Headline.{seen}
use Rattle.protocol.specs.Applies.{Told, InCall, Dead, last_told}
use Rattle.protocol.specs.PassedBy.{call_told}

-- ---- what is recorded

-- the wakes among some facts, and the moves, in their order
abbrev pub wakes_in : List Fact → List Fact
wakes_in [] = []
wakes_in (Wake t ∷ fs) = Wake t ∷ wakes_in fs
wakes_in (f ∷ fs) = wakes_in fs

abbrev pub moves_in : List Fact → List Fact
moves_in [] = []
moves_in (Move t m ∷ fs) = Move t m ∷ moves_in fs
moves_in (f ∷ fs) = moves_in fs

-- ---- how a call left its mutex

-- the mutex of the last point of thread t's call, as it was directly after the event of that, and none where the call
-- has had none; by these facts of an event that led to state s, and before them it was o
abbrev pub left_next : ℕ → State → Option Object → List Fact → Option Object
left_next t s o [] = o
left_next t s o (Begin u b ∷ fs) = left_next t s (if u == t then None else o) fs
left_next t s o (Point d ∷ fs) = left_next t s (if d.thread == t then Some (seen s d.mutex) else o) fs
left_next t s o (f ∷ fs) = left_next t s o fs

-- by these events from state s on
abbrev pub left_by : ℕ → State → Option Object → List Event → Option Object
left_by t s o [] = o
left_by t s o (e ∷ es) =
    left_by t (happens s e).state (left_next t (happens s e).state o (facts_of (happens s e).note)) es

-- ---- whom a call wakes or moves

-- of those who sleep on a mutex that was left so one is to learn of that, the first; and all, where it is unusable:
-- nobody takes it until it is reinitialised, which has to wait until nobody sleeps on it
abbrev pub to_tell : Option Object → List ℕ → List ℕ
to_tell None q = []
to_tell (Some o) q = if o.unusable then q else take 1 q

-- the first of a queue, once a call has had a point
abbrev pub the_first : Option Object → List ℕ → List ℕ
the_first None q = []
the_first (Some o) q = take 1 q

-- in state s a call of this operation, on mutex m and condition variable k, whose last point left its mutex so, and
-- nobody where it has had none: a signal wakes the first of the condition variable's queue; a lock, an unlock and a
-- wait wake those of the mutex's who are to learn of it
abbrev pub whom_it_wakes : State → Option Object → Operation → ℕ → Option ℕ → List ℕ
whom_it_wakes s o Signal m (Some k) = the_first o (s.queues (queue_place s.layout (Condition k)))
whom_it_wakes s o Lock m k = to_tell o (sleepers s m)
whom_it_wakes s o TimedLock m k = to_tell o (sleepers s m)
whom_it_wakes s o Unlock m k = to_tell o (sleepers s m)
whom_it_wakes s o Wait m k = to_tell o (sleepers s m)
whom_it_wakes s o TimedWait m k = to_tell o (sleepers s m)
whom_it_wakes s o op m k = []

-- a broadcast moves all of the condition variable's queue
abbrev pub whom_it_moves : State → Operation → Option ℕ → List ℕ
whom_it_moves s Broadcast (Some k) = s.queues (queue_place s.layout (Condition k))
whom_it_moves s op k = []

-- ---- one event more

-- none are recorded, or just these, in their order
abbrev pub AreNoneOr : List Fact → List Fact → Type 0
AreNoneOr these told = (told ≡ []) ⊎ (told ≡ these)

-- in state s the facts of a step by a thread of which the trace told this, and so its call, the mutex of whose last
-- point was left so: in a call it wakes and moves those whom that call is to, out of its own queues; once the thread is
-- dead, the walk of its list wakes the first of a mutex's queue
abbrev pub WakesWhom : State → Told → Option Begun → Option Object → List Fact → Type 0
WakesWhom s InCall (Some b) o fs = AreNoneOr (map Wake (whom_it_wakes s o b.operation b.mutex b.condition))
    (wakes_in fs) × AreNoneOr (map (moves_to b.mutex) (whom_it_moves s b.operation b.condition)) (moves_in fs)
WakesWhom s Dead b o fs = ((wakes_in fs ≡ [])
    ⊎ (m : ℕ) × (m < s.layout.mutexes) × (wakes_in fs ≡ map Wake (take 1 (sleepers s m)))) × (moves_in fs ≡ [])
WakesWhom s w b o fs = (wakes_in fs ≡ []) × (moves_in fs ≡ [])

-- a leave or an expiry wakes nobody but its own thread, if that sleeps, and moves nobody
abbrev pub WakesItself : ℕ → List Fact → Type 0
WakesItself t fs = AreNoneOr (Wake t ∷ []) (wakes_in fs) × (moves_in fs ≡ [])

-- after these events from state s on; a begin, a kill, a decline, a renewal, a remake and a spare wake and move
-- nobody
abbrev pub WakesSo : State → List Event → Event → Type 0
WakesSo s events (event.Step t) = WakesWhom (run s events) (last_told t (notes s events)) (call_told t (notes s events))
    (left_by t s None events) (facts_of (happens (run s events) (event.Step t)).note)
WakesSo s events (event.Leave t) = WakesItself t (facts_of (happens (run s events) (event.Leave t)).note)
WakesSo s events (event.Expire t) = WakesItself t (facts_of (happens (run s events) (event.Expire t)).note)
WakesSo s events e = (wakes_in (facts_of (happens (run s events) e).note) ≡ [])
    × (moves_in (facts_of (happens (run s events) e).note) ≡ [])

-- ---- runs

-- whatever happened, with any values of the counters at the beginning: so does the next event
abbrev pub WakesAreRight : Type 0
WakesAreRight = (l : Layout') (counters : ℕ → ℕ) (events : List Event) → IsLayout l → (e : Event)
    → WakesSo (start l counters) events e
