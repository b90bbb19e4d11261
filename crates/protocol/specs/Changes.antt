-- What a begin, a kill and a step may change; every other event is spoken of where it is defined (`Leaves.antt`,
-- `Renewals.antt`, `Reinits.antt`, `Spares.antt`). Who stands in which queue after it is what the trace tells
-- (`Wakings.antt`).
--
-- *What an event changes.* A begin changes no word and no queue, a kill no word and only its thread's place in a queue,
-- a step one word at most: one of its thread's head, a link of a mutex that this owns, its call's cell, or the counter
-- where it is a signal or a broadcast; a dead thread's the cell of a mutex that it owns. It changes the queues of that
-- mutex and that condition variable alone, a dead thread's those of mutexes. No other thread changes. Of every state
-- that events lead to: the law `events_leave_the_rest`.
use Rattle.std.specs.Prelude.{ℕ, ◌≡◌, ◌≢◌, ◌+◌, ◌<◌, ◌≤◌, ◌⊎◌, Option, Some, List}
use Rattle.buckets.specs.Queues.{without}
use Rattle.posixmutex.specs.declared.point.Operation.TheVariants.{Signal, Broadcast}
use Rattle.memorymap.specs.Layouts.{Layout', IsLayout, head_place, entry_place, cell_place, counter_place}
use Rattle.facts.specs.declared.fact.Begun.{Begun}
use Rattle.condvar.specs.declared.op.Op.{Op}
use Rattle.protocol.specs.declared.event.Event.{Event}
use Rattle.protocol.specs.declared.event.Event.TheVariants.{Begin, Step, Kill}
use Rattle.protocol.specs.Machine.{State, start, happens, run, notes}
use Rattle.protocol.specs.Headline.{seen}
use Rattle.protocol.specs.Applies.{Told, InCall, Dead, last_told, IsInNoQueue}
use Rattle.protocol.specs.PassedBy.{call_told}

-- ---- begins and kills

-- thread t begins a call, or is refused, from state s to s': no word changes, no queue and no other thread, and it owns
-- as many mutexes
pub record OnlyBegins (s s' : State) (t : ℕ) : Type 0 where
  pub words : (p : ℕ) → s'.words p ≡ s.words p
  pub queues : (key : ℕ) → s'.queues key ≡ s.queues key
  pub others : (u : ℕ) → u ≢ t → s'.threads u ≡ s.threads u
  pub held : (s'.threads t).held ≡ (s.threads t).held

-- it is killed: no word changes, and no other thread; from the queues nobody else goes; and it owns as many mutexes
pub record OnlyKills (s s' : State) (t : ℕ) : Type 0 where
  pub words : (p : ℕ) → s'.words p ≡ s.words p
  pub queues : (key : ℕ) → s'.queues key ≡ without t (s.queues key)
  pub gone : IsInNoQueue s' t
  pub others : (u : ℕ) → u ≢ t → s'.threads u ≡ s.threads u
  pub held : (s'.threads t).held ≡ (s.threads t).held

-- ---- steps

-- the place is that of a word of thread t's head, or of a link of a mutex that it owns
abbrev pub IsItsOwn : State → ℕ → ℕ → Type 0
IsItsOwn s t p = ((k : ℕ) × (k < 3) × (p ≡ head_place t + k))
    ⊎ ((m : ℕ) × (m < s.layout.mutexes) × ((seen s m).owner ≡ Some t)
    × ((p ≡ entry_place s.layout m) ⊎ (p ≡ entry_place s.layout m + 1)))

-- the place is that of the counter of a signal's or a broadcast's condition variable
abbrev pub MayCount : Layout' → Begun → ℕ → Type 0
MayCount l b p =
    ((b.operation ≡ Signal) ⊎ (b.operation ≡ Broadcast)) × (k : ℕ) × (b.condition ≡ Some k) × (p ≡ counter_place l k)

-- a step of thread t, of which this was recorded, and this call, may change the word at this place: in a call one of
-- its own, its mutex's cell, and its counter where it is a signal or a broadcast; once the thread is dead the cell
-- of a mutex that it owns
abbrev pub MayChange : State → ℕ → Told → Option Begun → ℕ → Type 0
MayChange s t InCall (Some b) p = IsItsOwn s t p ⊎ ((p ≡ cell_place s.layout b.mutex) ⊎ MayCount s.layout b p)
MayChange s t Dead b p = (m : ℕ) × (m < s.layout.mutexes) × ((seen s m).owner ≡ Some t) × (p ≡ cell_place s.layout m)
MayChange s t w b p = ⊥

-- it may change the queue of its mutex or of its condition variable; once the thread is dead that of a mutex
abbrev pub MayStir : State → Told → Option Begun → ℕ → Type 0
MayStir s InCall (Some b) key = (key ≡ cell_place s.layout b.mutex)
    ⊎ (k : ℕ) × (b.condition ≡ Some k) × (key ≡ counter_place s.layout k)
MayStir s Dead b key = (m : ℕ) × (m < s.layout.mutexes) × (key ≡ cell_place s.layout m)
MayStir s w b key = ⊥

-- it makes a step: at most one word changes, and no other thread; who stands in the queues then is recorded
pub record OnlySteps (s s' : State) (t : ℕ) (w : Told) (b : Option Begun) : Type 0 where
  pub place : ℕ
  pub words : (p : ℕ) → p ≢ place → s'.words p ≡ s.words p
  pub word : (s'.words place ≡ s.words place) ⊎ MayChange s t w b place
  pub queues : (key : ℕ) → (s'.queues key ≡ s.queues key) ⊎ MayStir s w b key
  pub others : (u : ℕ) → u ≢ t → s'.threads u ≡ s.threads u

-- ---- runs

-- of a state that events lead to that were noted so
pub record ChangesSo (s : State) (t : ℕ) (w : Told) (b : Option Begun) : Type 0 where
  pub begins : (o : Op) → OnlyBegins s (happens s (Begin t o)).state t
  pub kills : OnlyKills s (happens s (Kill t)).state t
  pub steps : OnlySteps s (happens s (Step t)).state t w b

-- whatever happened, with any values of the counters at the beginning: so does each thread
abbrev pub EventsLeaveTheRest : Type 0
EventsLeaveTheRest = (l : Layout') (counters : ℕ → ℕ) (events : List Event) → IsLayout l
    → (t : ℕ) → 1 ≤ t → t ≤ l.threads
    → ChangesSo (run (start l counters) events) t (last_told t (notes (start l counters) events))
    (call_told t (notes (start l counters) events))
