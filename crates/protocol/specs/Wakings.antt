-- What a trace tells of who falls asleep and who is woken (futex(2)).
--
-- *Told asleep.* Where a thread sleeps by what the trace has told of it: that of the last of its lines among sleep,
-- move, wake and kill, where this is a sleep or a move. Its sleeps and wakes alternate: it is told to fall asleep only
-- where it was awake, and to be woken or moved only where it slept.
--
-- *Sleeps are recorded.* A thread stands in a queue exactly where it is recorded asleep, in the queue recorded, and in
-- no other. In each queue they stand as they came, by what was recorded: a sleep comes to its end, a move to the end
-- of the mutex's, and a wake or a kill takes out; each wake by another's event and each move names the front
-- (`NameFronts`: of facts in which nobody leaves by itself, which the law `without_leaves_as_before` has of whole
-- runs). The next event tells its sleep exactly where it comes to be in a queue, its wake exactly where it leaves
-- one and stands in none, but by its kill, and its move exactly where it leaves that of a condition variable for its
-- mutex's. A sleep is recorded only of a thread whose call is a lock of that mutex, or a wait on it or on that
-- condition variable. Of every state that events lead to, so of each beginning of a run: the law `sleeps_are_told`,
-- and `Machine::run` of what the machine did (`TellsAtEachMoment`; `interleave/specs/Reached.antt`). Source:
-- futex(2).
use Rattle.std.specs.Prelude.{ℕ, length, slice_index, ◌≡◌, ◌≢◌, ◌<◌, ◌==◌, ◌↔◌, ◌⊎◌, Bool, true}
use Rattle.std.specs.Prelude.{false, Option, Some, None, List, [], ◌∷◌, ◌++◌, if◌then◌else◌}
use Rattle.buckets.specs.Queues.{without}
use Rattle.memorymap.specs.Layouts.{Layout', IsLayout}
use Rattle.posixmutex.specs.declared.point.Operation.TheVariants.{Lock, TimedLock}
use Rattle.facts.specs.Lives.{IsWait}
use Rattle.protocol.specs.declared.event.Event.{Event}
use Rattle.protocol.specs.declared.event.Event.TheVariants as event
use Rattle.protocol.specs.declared.note.Note.{Note}
use Rattle.protocol.specs.declared.note.Note.TheVariants.{Left, Expired}
use Rattle.facts.specs.declared.fact.Begun.{Begun}
use Rattle.facts.specs.declared.fact.Queue.{Queue}
use Rattle.facts.specs.declared.fact.Queue.TheVariants.{Mutex, Condition}
use Rattle.facts.specs.declared.fact.Fact.{Fact}
use Rattle.facts.specs.declared.fact.Fact.TheVariants.{Sleep, Wake, Move, Kill}
use Rattle.protocol.specs.Notes.{facts_of}
use Rattle.protocol.specs.Machine.{State, start, happens, run, notes, stands_in}
use Rattle.protocol.specs.Headline.{facts_among}
use Rattle.protocol.specs.Ops.{queue_place}
use Rattle.protocol.specs.Sleepers.{StandsIn, IsAmong}
use Rattle.protocol.specs.Applies.{IsInNoQueue}
use Rattle.protocol.specs.PassedBy.{call_told}

-- ---- what lines tell of a thread

-- where thread t sleeps, with one fact more: a sleep names it, a move takes it to a mutex, and a wake and its kill end
-- it
abbrev pub asleep_next : ℕ → Option Queue → Fact → Option Queue
asleep_next t w (Sleep u q) = if u == t then Some q else w
asleep_next t w (Move u m) = if u == t then Some (Mutex m) else w
asleep_next t w (Wake u) = if u == t then None else w
asleep_next t w (Kill u) = if u == t then None else w
asleep_next t w f = w

abbrev pub asleep_after : ℕ → Option Queue → List Fact → Option Queue
asleep_after t w [] = w
asleep_after t w (f ∷ fs) = asleep_after t (asleep_next t w f) fs

-- that of the last of its lines among sleep, move, wake and kill, where this is a sleep or a move; of a thread without
-- such a line it is none
abbrev pub told_asleep : ℕ → List Note → Option Queue
told_asleep t ns = asleep_after t None (facts_among ns)

-- it is told to fall asleep only where it was awake, and to be woken or moved only where it slept
abbrev pub MayFollow : ℕ → Option Queue → Fact → Type 0
MayFollow t w (Sleep u q) = u ≡ t → w ≡ None
MayFollow t w (Wake u) = u ≡ t → w ≢ None
MayFollow t w (Move u m) = u ≡ t → w ≢ None
MayFollow t w f = Unit {0}

-- so its sleeps and wakes alternate
abbrev pub Alternates : ℕ → Option Queue → List Fact → Type 0
Alternates t w [] = Unit {0}
Alternates t w (f ∷ fs) = MayFollow t w f × Alternates t (asleep_next t w f) fs

-- ---- what lines tell of the queues

-- a queue of the layout
abbrev pub IsQueue : Layout' → Queue → Type 0
IsQueue l (Mutex m) = m < l.mutexes
IsQueue l (Condition k) = k < length l.conditions

abbrev pub is_queue : Queue → Queue → Bool
is_queue (Mutex m) (Mutex n) = m == n
is_queue (Condition k) (Condition j) = k == j
is_queue q r = false

-- who sleeps in each queue, in the order in which they came, with one fact more: whoever falls asleep comes to the end
-- of the queue that this names, and whoever is moved to that of the mutex, out of any other; a wake and a kill take it
-- out
abbrev pub queues_next : Fact → (Queue → List ℕ) → Queue → List ℕ
queues_next (Sleep t q) w = λ r. if is_queue q r then w r ++ t ∷ [] else w r
queues_next (Move t m) w = λ r. if is_queue (Mutex m) r then without t (w r) ++ t ∷ [] else without t (w r)
queues_next (Wake t) w = λ r. without t (w r)
queues_next (Kill t) w = λ r. without t (w r)
queues_next f w = w

abbrev pub queues_after : (Queue → List ℕ) → List Fact → Queue → List ℕ
queues_after w [] = w
queues_after w (f ∷ fs) = queues_after (queues_next f w) fs

-- nobody sleeps before anything is recorded
abbrev pub nobody : Queue → List ℕ
nobody q = []

abbrev pub queues_told : List Note → Queue → List ℕ
queues_told ns = queues_after nobody (facts_among ns)

-- thread t came first of those who sleep there
abbrev pub IsFront : ℕ → List ℕ → Type 0
IsFront t [] = ⊥
IsFront t (u ∷ us) = u ≡ t

-- a wake names the front of a queue, and a move that of a condition variable of the mutex; which queue that is, and how
-- many of it are recorded, is said in `Wakes.antt`
abbrev pub NamesFront : Layout' → (Queue → List ℕ) → Fact → Type 0
NamesFront l w (Wake t) = (q : Queue) × IsQueue l q × IsFront t (w q)
NamesFront l w (Move t m) =
    (k : ℕ) × (k < length l.conditions) × (slice_index l.conditions k ≡ m) × IsFront t (w (Condition k))
NamesFront l w f = Unit {0}

-- by the facts before it
abbrev pub NameFronts : Layout' → (Queue → List ℕ) → List Fact → Type 0
NameFronts l w [] = Unit {0}
NameFronts l w (f ∷ fs) = NamesFront l w f × NameFronts l (queues_next f w) fs

-- of what an event tells: who leaves by itself stands in a queue, wherever in it; all others who are woken or moved are
-- fronts
abbrev pub NotesFronts : Layout' → (Queue → List ℕ) → Note → Type 0
NotesFronts l w (Left t) = (q : Queue) × IsQueue l q × (stands_in t (w q) ≡ true)
NotesFronts l w (Expired t q) = IsQueue l q × (stands_in t (w q) ≡ true)
NotesFronts l w n = NameFronts l w (facts_of n)

-- by what the events before it told
abbrev pub AllNoteFronts : Layout' → (Queue → List ℕ) → List Note → Type 0
AllNoteFronts l w [] = Unit {0}
AllNoteFronts l w (n ∷ ns) = NotesFronts l w n × AllNoteFronts l (queues_after w (facts_of n)) ns

-- ---- one event more

-- it stood in no queue, and is in this one then
abbrev pub FallsAsleep : State → State → ℕ → Queue → Type 0
FallsAsleep s s' t q = IsInNoQueue s t × IsQueue s.layout q × StandsIn s' t q

-- it stood in a queue, and stands in none then
abbrev pub LeavesQueue : State → State → ℕ → Type 0
LeavesQueue s s' t = ((key : ℕ) × (stands_in t (s.queues key) ≡ true)) × IsInNoQueue s' t

-- it stood in the queue of a condition variable of mutex m, and is in the mutex's then
abbrev pub IsMoved : State → State → ℕ → ℕ → Type 0
IsMoved s s' t m = ((k : ℕ) × (k < length s.layout.conditions) × (slice_index s.layout.conditions k ≡ m)
    × StandsIn s t (Condition k)) × StandsIn s' t (Mutex m)

-- an event tells thread t's sleep exactly where it comes to be in a queue, which the sleep names; its wake exactly
-- where it leaves one and stands in none, but by its kill; and its move exactly where it leaves that of a condition
-- variable for its mutex's
pub record TellsTurns (s : State) (e : Event) (t : ℕ) : Type 0 where
  pub sleep : (q : Queue) → IsAmong (Sleep t q) (facts_of (happens s e).note) ↔ FallsAsleep s (happens s e).state t q
  pub wake : IsAmong (Wake t) (facts_of (happens s e).note)
      ↔ (LeavesQueue s (happens s e).state t × (e ≢ event.Kill t))
  pub move : (m : ℕ) → IsAmong (Move t m) (facts_of (happens s e).note) ↔ IsMoved s (happens s e).state t m

-- ---- whose sleep is recorded

-- a call, as its begin was recorded, may come to sleep there: a lock, with a time limit or without, in the queue of
-- its mutex, and a wait in that of its condition variable or of its mutex
abbrev pub MaySleepIn : Queue → Option Begun → Type 0
MaySleepIn q None = ⊥
MaySleepIn (Mutex m) (Some b) =
    (b.mutex ≡ m) × ((b.operation ≡ Lock) ⊎ ((b.operation ≡ TimedLock) ⊎ IsWait b.operation))
MaySleepIn (Condition k) (Some b) = (b.condition ≡ Some k) × IsWait b.operation

-- ---- runs

-- of a state that events lead to that were noted so: a thread stands in a queue exactly where the last of its lines
-- among sleep, move, wake and kill is a sleep or a move, in the one that this names, and in no other; in each queue
-- they stand as they came, by what was recorded; who is woken or moved is the front; and a sleep is recorded only of
-- a thread in a lock or a wait, in a queue of that call's
pub record TellsSleepers (l : Layout') (s : State) (ns : List Note) : Type 0 where
  pub stands : (t key : ℕ) → stands_in t (s.queues key) ≡ true
      → (q : Queue) × (told_asleep t ns ≡ Some q) × (key ≡ queue_place l q)
  pub sleeps : (t : ℕ) (q : Queue) → told_asleep t ns ≡ Some q → IsQueue l q × StandsIn s t q
  pub alternate : (t : ℕ) → Alternates t None (facts_among ns)
  pub queues : (q : Queue) → IsQueue l q → s.queues (queue_place l q) ≡ queues_told ns q
  pub fronts : AllNoteFronts l nobody ns
  pub next : (e : Event) (t : ℕ) → TellsTurns s e t
  pub callers : (e : Event) (t : ℕ) (q : Queue) → IsAmong (Sleep t q) (facts_of (happens s e).note)
      → MaySleepIn q (call_told t ns)

-- whatever happens, with any values of the counters at the beginning; so after each event
abbrev pub SleepsAreTold : Type 0
SleepsAreTold = (l : Layout') (counters : ℕ → ℕ) (events : List Event) → IsLayout l
    → TellsSleepers l (run (start l counters) events) (notes (start l counters) events)
