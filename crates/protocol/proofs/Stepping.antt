-- One access of a thread, whatever it does.
use Rattle.std.proofs.Common.{◌≡◌, ◌≢◌, ◌⊎◌, ℕ, ◌+◌, ◌<◌, ◌≤◌, true, false, Some, length, []}
pub use Rattle.protocol.specs.WaitersBit.{HasWaiters}
pub use Rattle.protocol.specs.Machine.{wakes_next}
use Rattle.protocol.proofs.Vocabulary.{CondRow, CondPhase, acquires, sleeps_at, Layout', head_place, cell_place, Reply, AtCell, OnCondition}
use Rattle.protocol.proofs.Vocabulary.{mutex_of, Stage, Calling, AtCondition, Dying, State, is_met, seen, IsUnowned, slice_index, LockRow, WaitRow, SignalRow, BroadcastRow, Part}
use Rattle.stepprograms.specs.declared.access.Access.TheVariants.{Wake, CmpRequeue}
use Rattle.memorymap.specs.Chains.{IsAmong}
use Rattle.mutex.specs.declared.row.Row.TheVariants.{Lock}
use Rattle.robustlist.specs.UnlinkLaws.{unlink_left}
use Rattle.exitwalk.specs.declared.row.Row as walk_row
use Rattle.exitwalk.specs.declared.row.Row.TheVariants as walk
use Rattle.exitwalk.specs.Ranks.{left_alone}
use Rattle.protocol.specs.Machine.{places_of}
use Rattle.protocol.proofs.Phases.{answers_at, left_at}
use Rattle.protocol.proofs.Seeing.{entry_in, cell_in, counter_in, words_in}
use Rattle.protocol.proofs.Kept.{Kept}
use Rattle.protocol.proofs.Steps.{Tells, Transition, IsNoMove, after, place_of, met}

-- ---- stages

-- a thread there, in the queue of one of its places, will load its mutex's cell when it is woken
abbrev pub SleepsAs : Layout' → ℕ → Stage → Type 0
SleepsAs l key (Calling c p) = (p.phase ≡ AtCell (Lock LockRow.Load)) × IsAmong key (places_of l (Calling c p))
SleepsAs l key g = ⊥

-- a walk that is at a row, and has not come to its pending entry yet, answers for the mutex that is pending; and at a wake, for the one whose sleeper it is going to wake
abbrev pub Minds : Layout' → (ℕ → ℕ) → ℕ → ℕ → walk_row.Row → Type 0
Minds l words m t walk.LoadFirst = words (head_place t + 2) ≡ entry_in l t m
Minds l words m t (walk.LoadOffset f) = words (head_place t + 2) ≡ entry_in l t m
Minds l words m t (walk.LoadPending f o) = words (head_place t + 2) ≡ entry_in l t m
Minds l words m t (walk.LoadNext r) = r.pending ≡ entry_in l t m
Minds l words m t (walk.LoadWord at (Part.List r)) = r.pending ≡ entry_in l t m
Minds l words m t (walk.LoadWord at Part.Pending) = at ≡ cell_in l t m
Minds l words m t (walk.Mark at v again (Part.List r)) = r.pending ≡ entry_in l t m
Minds l words m t (walk.WakeOne at (Part.List r)) = (at ≡ cell_in l t m) ⊎ (r.pending ≡ entry_in l t m)
Minds l words m t (walk.WakeOne at Part.Pending) = at ≡ cell_in l t m
Minds l words m t r = ⊥

-- thread t, awake there, takes mutex m or wakes one that sleeps on it, unless it finds it owned
abbrev pub AnswersAs : Layout' → (ℕ → ℕ) → ℕ → ℕ → Stage → Type 0
AnswersAs l words m t (Calling o p) = (mutex_of l o ≡ m) × (answers_at p.phase ≡ true)
AnswersAs l words m t (AtCondition c p) = (mutex_of l (OnCondition c) ≡ m) × (wakes_next p.phase ≡ true)
AnswersAs l words m t (Dying w) = Minds l words m t w.row
AnswersAs l words m t g = ⊥

-- this many accesses a call on a condition variable still makes, at most, where nobody else steps
abbrev pub left_of_row : CondRow → ℕ
left_of_row (CondRow.Wait WaitRow.LoadCell) = 77
left_of_row (CondRow.Wait WaitRow.LoadCounter) = 76
left_of_row (CondRow.Wait (WaitRow.Release seen)) = 65
left_of_row (CondRow.Wait (WaitRow.Wake seen)) = 64
left_of_row (CondRow.Wait (WaitRow.Sleep seen)) = 63
left_of_row (CondRow.Signal SignalRow.LoadCell) = 4
left_of_row (CondRow.Signal SignalRow.LoadCounter) = 3
left_of_row (CondRow.Signal SignalRow.Count) = 2
left_of_row (CondRow.Signal SignalRow.Wake) = 1
left_of_row (CondRow.Broadcast BroadcastRow.LoadCell) = 5
left_of_row (CondRow.Broadcast BroadcastRow.LoadCounter) = 4
left_of_row (CondRow.Broadcast (BroadcastRow.Count seen)) = 3
left_of_row (CondRow.Broadcast (BroadcastRow.SetWaiters seen)) = 2
left_of_row (CondRow.Broadcast (BroadcastRow.Move seen)) = 1
left_of_row r = 0

abbrev pub left_at_phase : CondPhase → ℕ
left_at_phase (CondPhase.AtWords r) = left_of_row r
left_at_phase (CondPhase.Announcing seen) = 75
left_at_phase (CondPhase.Unlinking u seen) = 66 + unlink_left u.row
left_at_phase f = 0

-- this many accesses a thread there still makes, at most, where nobody else steps
abbrev pub left_of : State → Stage → ℕ
left_of s (Calling o p) = left_at p.phase (s.words (cell_place s.layout (mutex_of s.layout o)))
left_of s (AtCondition c p) = left_at_phase p.phase
left_of s (Dying w) = left_alone (words_in s.layout w.thread s.words) w.row
left_of s g = 0

-- ---- what an access leaves

-- it doesn't fall asleep, and answers for mutex k then
abbrev pub Continues : State → ℕ → Transition → ℕ → Type 0
Continues s t v k = (sleeps_at v.access (met s t v) ≡ false) × AnswersAs s.layout (after s t v).words k t v.next

-- who leaves mutex k free, with WAITERS: it wakes some that sleep there; or it answers for it; or it found it free, and answers for it where it did
pub data Settles (s : State) (t : ℕ) (v : Transition) (k : ℕ) : Type 0 where
  Wakes_there : (n : ℕ) → 1 ≤ n → v.access ≡ Wake (cell_in s.layout t k) n → Settles s t v k
  Answers_now : Continues s t v k → Settles s t v k
  Found_free : IsUnowned s k → (AnswersAs s.layout s.words k t v.from → Continues s t v k) → Settles s t v k

-- it moves nobody; or all who sleep on a condition variable to its mutex, which is owned then, and whose cell has WAITERS
pub data Moving (s : State) (t : ℕ) (v : Transition) : Type 0 where
  Moves_none : IsNoMove v.access → Moving s t v
  Moves_to : (k e n : ℕ) → k < length s.layout.conditions → slice_index s.layout.conditions k ≡ v.mutex → v.access ≡ CmpRequeue (counter_in s.layout t k) e 0 (cell_in s.layout t v.mutex) n → HasWaiters s v.mutex → (IsUnowned s v.mutex → ⊥) → Moving s t v

-- what it leaves of its mutex and of all else, and what holds of every state holds then
pub record Stepping (s : State) (t : ℕ) (v : Transition) : Type 0 where
  pub valid : is_met s.layout t v.access ≡ true
  pub inside : v.mutex < s.layout.mutexes
  pub kept : Kept (after s t v)
  pub tells : Tells t (seen s v.mutex) v.operation v.point (seen (after s t v) v.mutex)
  -- who makes a point may take another mutex
  pub room : (x : Reply) → v.point ≡ Some x → acquires v.operation ≡ true → (s.threads t).held < 2048
  pub far : (k : ℕ) → k ≢ v.mutex → seen (after s t v) k ≡ seen s k
  -- WAITERS stays in each cell, or nobody sleeps there and nobody owns it
  pub waiters : (k : ℕ) → k < s.layout.mutexes → HasWaiters s k → HasWaiters (after s t v) k ⊎ (((after s t v).queues (cell_place s.layout k) ≡ []) × IsUnowned s k)
  pub pendings : (u : ℕ) → 1 ≤ u → u ≤ s.layout.threads → t ≢ u → (after s t v).words (head_place u + 2) ≡ s.words (head_place u + 2)
  -- whoever falls asleep stands where it goes on; on a mutex's cell, that is owned and has WAITERS
  pub sleeper : sleeps_at v.access (met s t v) ≡ true → SleepsAs s.layout (place_of s t v) v.next
  pub asleep : sleeps_at v.access (met s t v) ≡ true → (k : ℕ) → k < s.layout.mutexes → place_of s t v ≡ cell_place s.layout k → HasWaiters s k × (IsUnowned s k → ⊥)
  pub moving : Moving s t v
  pub settles : (k : ℕ) → k < s.layout.mutexes → IsUnowned (after s t v) k → HasWaiters (after s t v) k → Settles s t v k
  -- fewer accesses are left
  pub some : 0 < left_of s v.from
  pub few : left_of s v.from ≤ 9000
  pub fewer : sleeps_at v.access (met s t v) ≡ false → left_of (after s t v) v.next < left_of s v.from
