-- Wakes that are spared: the mutex is left to another, who answers for it: a thread, which looks at its word again by
-- itself; its owner; or a walk.
use Rattle.std.specs.Prelude.{ℕ, ◌≡◌, ◌≢◌, ◌≤◌, true, false, List, []}
use Rattle.lockword.specs.declared.reply.Reply.TheVariants.{OK}
use Rattle.lockword.specs.Cells.{fields_of}
use Rattle.memorymap.specs.Layouts.{Layout', IsLayout, cell_place}
use Rattle.mutex.specs.declared.phase.Phase.TheVariants.{AtCell, Clearing}
use Rattle.mutex.specs.declared.row.Row.TheVariants.{Unlock}
use Rattle.mutex.specs.declared.unlock.UnlockRow.TheVariants as unlock
use Rattle.mutex.specs.Standings.{Whole}
use Rattle.condvar.specs.declared.call.CondCall.{CondCall}
use Rattle.condvar.specs.declared.phase.CondPhase.TheVariants.{AtWords}
use Rattle.condvar.specs.declared.row.CondRow.TheVariants.{Wait}
use Rattle.condvar.specs.declared.wait.WaitRow.TheVariants as wait
use Rattle.condvar.specs.Standings.{CondWhole}
use Rattle.condvar.specs.Ops.{mutex_of}
use Rattle.condvar.specs.declared.op.Op.{Op}
use Rattle.condvar.specs.declared.op.Op.TheVariants.{OnCondition}
use Rattle.protocol.specs.declared.event.Event.{Event}
use Rattle.exitwalk.specs.Standings as walks
use Rattle.protocol.specs.declared.event.Event.TheVariants.{Spare}
use Rattle.protocol.specs.declared.event.LeftTo.{LeftTo}
use Rattle.protocol.specs.declared.event.LeftTo.TheVariants as left_to
use Rattle.protocol.specs.declared.thread.Stage.{Stage}
use Rattle.protocol.specs.declared.thread.Stage.TheVariants.{Calling, AtCondition, Dying}
use Rattle.protocol.specs.Notes.{facts_of}
use Rattle.protocol.specs.Machine.{State, nothing, start, happens, run, stands_in, answers, minds}

-- the next access of thread t's call wakes one that sleeps on mutex m; and where it goes on that woke one: an unlock to
-- clear its pending entry and to return OK, a wait to sleep
pub data WakesOneOf (s : State) (t m : ℕ) (then : Stage) : Type 0 where
  In_unlock : (o : Op) (p : Whole) → (s.threads t).stage ≡ Calling o p → m ≡ mutex_of s.layout o
      → p.phase ≡ AtCell (Unlock (unlock.Wake false)) → then ≡ Calling o (record p { phase = Clearing OK })
      → WakesOneOf s t m then
  In_wait : (c : CondCall) (p : CondWhole) (seen : ℕ) → (s.threads t).stage ≡ AtCondition c p
      → m ≡ mutex_of s.layout (OnCondition c) → p.phase ≡ AtWords (Wait (wait.Wake seen))
      → then ≡ AtCondition c (record p { phase = AtWords (Wait (wait.Sleep seen)) }) → WakesOneOf s t m then

-- another thread, awake, answers for mutex m: in a lock of it, or the lock that ends a wait, it has still to look at
-- the word; or in an unlock or a wait it is about to wake on it; or it was killed with the mutex pending, and its walk,
-- which hasn't begun, will look at the word
pub record AnotherAnswers (s : State) (t m : ℕ) : Type 0 where
  pub other : ℕ
  pub first : 1 ≤ other
  pub last : other ≤ s.layout.threads
  pub apart : other ≢ t
  pub awake : (key : ℕ) → stands_in other (s.queues key) ≡ false
  pub looks : answers s.layout s.words m other (s.threads other).stage ≡ true

-- a walk answers for mutex m: it has the mutex pending and will look at the word, or is about to wake on it
pub record AWalkAnswers (s : State) (m : ℕ) : Type 0 where
  pub dead : ℕ
  pub first : 1 ≤ dead
  pub last : dead ≤ s.layout.threads
  pub at : walks.Standing
  pub dies : (s.threads dead).stage ≡ Dying at
  pub looks : minds s.layout s.words m dead at.row ≡ true

-- the one to whom thread t leaves mutex m answers for it: its owner, where its word names one
abbrev pub IsLeftTo : State → ℕ → ℕ → LeftTo → Type 0
IsLeftTo s t m left_to.Thread = AnotherAnswers s t m
IsLeftTo s t m left_to.Owner = (fields_of (s.words (cell_place s.layout m))).owner ≢ 0
IsLeftTo s t m left_to.Walk = AWalkAnswers s m

abbrev pub MaySpare : State → ℕ → LeftTo → Type 0
MaySpare s t by = (m : ℕ) × (then : Stage) × WakesOneOf s t m then × IsLeftTo s t m by

-- thread t's wake is spared, from state s to s': no word and no queue changes, and no other thread; it goes on as
-- after a wake of one, and owns as many mutexes
pub record OnlySpares (s s' : State) (t : ℕ) (then : Stage) : Type 0 where
  pub words : (p : ℕ) → s'.words p ≡ s.words p
  pub queues : (key : ℕ) → s'.queues key ≡ s.queues key
  pub others : (u : ℕ) → u ≢ t → s'.threads u ≡ s.threads u
  pub goes_on : (s'.threads t).stage ≡ then
  pub held : (s'.threads t).held ≡ (s.threads t).held

-- a spare happens if that one answers, and the trace records no fact of it; else nothing happens
pub record SparesSo (s : State) (t : ℕ) (by : LeftTo) : Type 0 where
  pub spared : (m : ℕ) (then : Stage) → WakesOneOf s t m then → IsLeftTo s t m by
      → OnlySpares s (happens s (Spare t by)).state t then × (facts_of (happens s (Spare t by)).note ≡ [])
  pub else_nothing : ¬ MaySpare s t by → happens s (Spare t by) ≡ nothing s

-- whatever happened, with any values of the counters at the beginning: so does each thread
abbrev pub SparesAreLone : Type 0
SparesAreLone = (l : Layout') (counters : ℕ → ℕ) (events : List Event) → IsLayout l → (t : ℕ) → 1 ≤ t → t ≤ l.threads
    → (by : LeftTo) → SparesSo (run (start l counters) events) t by
