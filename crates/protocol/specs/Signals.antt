-- A signal and a broadcast by the owner of the mutex that no other event divides (pthread_cond_signal(3p),
-- pthread_cond_broadcast(3p)).
--
-- *A signal and a broadcast alone.* By the owner of the mutex, and divided by no other event: refused with X_FULL
-- exactly where the counter is 2^32 - 1, and then nothing changes. Else it counts; a signal takes the front of its
-- condition variable's queue, and a broadcast sets WAITERS in its mutex's cell and moves the whole queue, in its order,
-- to the end of the mutex's; nothing else changes. Of every state that events lead to, with such counters: the law
-- `signals_are_right`. Source: pthread_cond_signal(3p), pthread_cond_broadcast(3p), futex(2).
use Rattle.std.specs.Prelude.{ℕ, ◌≡◌, ◌≢◌, ◌+◌, ◌≤◌, true, Some, List, [], ◌∷◌}
use Rattle.std.specs.Prelude.{◌++◌, map, replicate, take, drop, slice_index}
use Rattle.lockword.specs.Cells.{fields_of}
use Rattle.lockword.specs.declared.reply.Reply.{Reply}
use Rattle.lockword.specs.declared.reply.Reply.TheVariants.{OK, XFULL}
use Rattle.posixmutex.specs.declared.point.Operation.{Operation}
use Rattle.posixmutex.specs.declared.point.Operation.TheVariants as operation
use Rattle.memorymap.specs.Layouts.{Layout', IsLayout, cell_place, counter_place}
use Rattle.condvar.specs.declared.call.CondCall.{CondCall}
use Rattle.condvar.specs.declared.call.CondCall.TheVariants.{Signal, Broadcast}
use Rattle.condvar.specs.Laws.{largest_counter}
use Rattle.facts.specs.declared.fact.Fact.{Fact}
use Rattle.facts.specs.declared.fact.Fact.TheVariants.{Begin, Point, Wake, Return}
use Rattle.condvar.specs.declared.op.Op.TheVariants.{OnCondition}
use Rattle.protocol.specs.declared.event.Event.{Event}
use Rattle.protocol.specs.declared.event.Event.TheVariants as event
use Rattle.protocol.specs.Notes.{moves_to}
use Rattle.protocol.specs.Ops.{begun_of}
use Rattle.protocol.specs.Machine.{State, start, run, notes, may_begin}
use Rattle.protocol.specs.Headline.{seen, facts_among}
use Rattle.protocol.specs.PassedBy.{ArePresets}

-- a call on a condition variable and n steps of its thread
abbrev pub call_alone : ℕ → CondCall → ℕ → List Event
call_alone t c n = event.Begin t (OnCondition c) ∷ replicate n (event.Step t)

-- its begin and its one point, and then these facts and its return are recorded
abbrev pub told_of_call : State → ℕ → CondCall → ℕ → Operation → Reply → List Fact → List Fact
told_of_call s t c m op x fs = Begin t (begun_of s.layout (OnCondition c))
    ∷ (Point (record { thread = t; mutex = m; operation = op; reply = x }) ∷ (fs ++ Return t x ∷ []))

-- nothing changed
pub record IsUnchanged (s s' : State) : Type 0 where
  pub words : (p : ℕ) → s'.words p ≡ s.words p
  pub queues : (key : ℕ) → s'.queues key ≡ s.queues key
  pub threads : (u : ℕ) → s'.threads u ≡ s.threads u

-- a signal on condition variable k counted and took the front of its queue, and nothing else changed
pub record IsSignalled (s s' : State) (k : ℕ) : Type 0 where
  pub counter : s'.words (counter_place s.layout k) ≡ s.words (counter_place s.layout k) + 1
  pub words : (p : ℕ) → p ≢ counter_place s.layout k → s'.words p ≡ s.words p
  pub queue : s'.queues (counter_place s.layout k) ≡ drop 1 (s.queues (counter_place s.layout k))
  pub queues : (key : ℕ) → key ≢ counter_place s.layout k → s'.queues key ≡ s.queues key
  pub threads : (u : ℕ) → s'.threads u ≡ s.threads u

-- a broadcast on condition variable k of mutex m counted, set WAITERS in the mutex's cell and moved the whole queue, in
-- its order, to the end of the mutex's, and nothing else changed
pub record IsBroadcast (s s' : State) (k m : ℕ) : Type 0 where
  pub counter : s'.words (counter_place s.layout k) ≡ s.words (counter_place s.layout k) + 1
  pub cell : fields_of (s'.words (cell_place s.layout m))
      ≡ record (fields_of (s.words (cell_place s.layout m))) { waiters = true }
  pub words : (p : ℕ) → p ≢ counter_place s.layout k → p ≢ cell_place s.layout m → s'.words p ≡ s.words p
  pub queue : s'.queues (counter_place s.layout k) ≡ []
  pub moved : s'.queues (cell_place s.layout m)
      ≡ s.queues (cell_place s.layout m) ++ s.queues (counter_place s.layout k)
  pub queues : (key : ℕ) → key ≢ counter_place s.layout k → key ≢ cell_place s.layout m → s'.queues key ≡ s.queues key
  pub threads : (u : ℕ) → s'.threads u ≡ s.threads u

-- by the owner of condition variable k's mutex m: refused exactly where the counter has its largest value
pub record IsRightAlone (s : State) (t k m n : ℕ) : Type 0 where
  pub signal_full : s.words (counter_place s.layout k) ≡ largest_counter
      → IsUnchanged s (run s (call_alone t (Signal k) n))
      × (facts_among (notes s (call_alone t (Signal k) n)) ≡ told_of_call s t (Signal k) m operation.Signal XFULL [])
  pub signal : s.words (counter_place s.layout k) ≢ largest_counter
      → IsSignalled s (run s (call_alone t (Signal k) n)) k
      × (facts_among (notes s (call_alone t (Signal k) n))
      ≡ told_of_call s t (Signal k) m operation.Signal OK (map Wake (take 1 (s.queues (counter_place s.layout k)))))
  pub broadcast_full : s.words (counter_place s.layout k) ≡ largest_counter
      → IsUnchanged s (run s (call_alone t (Broadcast k) n))
      × (facts_among (notes s (call_alone t (Broadcast k) n))
      ≡ told_of_call s t (Broadcast k) m operation.Broadcast XFULL [])
  pub broadcast : s.words (counter_place s.layout k) ≢ largest_counter
      → IsBroadcast s (run s (call_alone t (Broadcast k) n)) k m
      × (facts_among (notes s (call_alone t (Broadcast k) n))
      ≡ told_of_call s t (Broadcast k) m operation.Broadcast OK
      (map (moves_to m) (s.queues (counter_place s.layout k))))

-- a thread in no call, that owns the mutex of condition variable k, calls; it has returned within 9,000 steps
abbrev pub AreRightAlone : State → Type 0
AreRightAlone s = (t k n : ℕ) → may_begin s t (OnCondition (Signal k)) ≡ true
    → (seen s (slice_index s.layout.conditions k)).owner ≡ Some t → 9000 ≤ n
    → IsRightAlone s t k (slice_index s.layout.conditions k) n

-- whatever happened before, with any such values of the counters at the beginning
abbrev pub SignalsAreRight : Type 0
SignalsAreRight = (l : Layout') (counters : ℕ → ℕ) (events : List Event) → IsLayout l → ArePresets counters
    → AreRightAlone (run (start l counters) events)
