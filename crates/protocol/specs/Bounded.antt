-- Calls that never wait: all but a lock and a wait.
--
-- *Calls that never wait.* All but a lock and a wait. Each makes this many accesses at most, by its table: once its
-- thread has made this many steps after its begin its return has been recorded, whatever others did in between, if
-- the thread wasn't killed; and it stands in no queue until it begins another call. The law
-- `only_locks_and_waits_wait`.
use Rattle.std.specs.Prelude.{ℕ, ◌≡◌, ◌≢◌, ◌+◌, ◌≤◌, ◌==◌, true, List, [], ◌∷◌, if◌then◌else◌}
use Rattle.lockword.specs.declared.reply.Reply.{Reply}
use Rattle.posixmutex.specs.declared.point.Operation.{Operation}
use Rattle.posixmutex.specs.declared.point.Operation.TheVariants as operation
use Rattle.memorymap.specs.Layouts.{Layout', IsLayout}
use Rattle.condvar.specs.Ops.{operation_of}
use Rattle.condvar.specs.declared.op.Op.{Op}
use Rattle.facts.specs.declared.fact.Fact.TheVariants.{Return}
use Rattle.protocol.specs.declared.event.Event.{Event}
use Rattle.protocol.specs.declared.event.Event.TheVariants.{Begin, Step, Kill}
use Rattle.protocol.specs.Machine.{State, start, happens, run, notes, may_begin}
use Rattle.protocol.specs.Headline.{facts_among}
use Rattle.protocol.specs.Sleepers.{IsAmong}
use Rattle.protocol.specs.Applies.{IsInNoQueue}
use Rattle.protocol.specs.PassedBy.{BeginsNone}

-- ---- how many steps

abbrev pub NeverWaits : Operation → Type 0
NeverWaits operation.Lock = ⊥
NeverWaits operation.TimedLock = ⊥
NeverWaits operation.Wait = ⊥
NeverWaits operation.TimedWait = ⊥
NeverWaits op = Unit {0}

-- this many accesses such a call makes at most, by its tables: a trylock stores its entry as the pending one, loads
-- the cell, makes four exchanges, five accesses of a link, and clears the pending entry; an unlock loads the cell,
-- stores the pending entry, makes four accesses of an unlink, releases, wakes, trims, and clears the pending entry
abbrev pub most_steps : Operation → ℕ
most_steps operation.TryLock = 12
most_steps operation.Unlock = 10
most_steps operation.Consistent = 2
most_steps operation.Signal = 4
most_steps operation.Broadcast = 5
most_steps op = 0

-- ---- whatever others do

-- this many of these events are steps of thread t
abbrev pub step_of : ℕ → Event → ℕ
step_of t (Step u) = if u == t then 1 else 0
step_of t e = 0

abbrev pub steps_of : ℕ → List Event → ℕ
steps_of t [] = 0
steps_of t (e ∷ es) = step_of t e + steps_of t es

-- none of them kills it
abbrev pub IsSpared : ℕ → List Event → Type 0
IsSpared t [] = Unit {0}
IsSpared t (Kill u ∷ es) = (u ≢ t) × IsSpared t es
IsSpared t (e ∷ es) = IsSpared t es

-- thread t begins call c, and then these events happen: once this many of them are its steps its return has been
-- recorded; and as long as it begins no other call it stands in no queue
pub record ReturnsInTime (s : State) (t : ℕ) (c : Op) (events : List Event) : Type 0 where
  pub returns : most_steps (operation_of c) ≤ steps_of t events
      → (x : Reply) × IsAmong (Return t x) (facts_among (notes s (Begin t c ∷ events)))
  pub awake : BeginsNone t (facts_among (notes (happens s (Begin t c)).state events))
      → IsInNoQueue (run s (Begin t c ∷ events)) t

-- ---- runs

-- whatever happened before, with any values of the counters at the beginning, and whatever else happens, by which the
-- thread isn't killed: a trylock, an unlock, a declaration, a signal and a broadcast return in time, and never sleep
abbrev pub OnlyLocksAndWaitsWait : Type 0
OnlyLocksAndWaitsWait = (l : Layout') (counters : ℕ → ℕ) (before events : List Event) (t : ℕ) (c : Op) → IsLayout l
    → may_begin (run (start l counters) before) t c ≡ true → NeverWaits (operation_of c) → IsSpared t events
    → ReturnsInTime (run (start l counters) before) t c events
