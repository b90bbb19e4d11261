-- Calls on condition variables, on what the passes of running threads know: where they stand, what they need, and what
-- an access at the mutex's cell or at the counter tells.
--
-- *Calls of running threads on condition variables.* What an access tells its thread: a first load, by a legal history
-- of the mutex up to the call's point, if it was one, whether the thread owns the mutex; a load of the counter and a
-- count, the counter's word, which the owner knows from then on; a release, what an unlock's tells; and a broadcast
-- that sets WAITERS sees nothing new, and remembers them (`having_set`; `Card.marks`: they stay set while its
-- thread owns the mutex). What the next access needs is so as far as its thread has seen: that it owns the mutex,
-- that this is consistent, that the counter isn't full, and before a broadcast's move that WAITERS are set in the
-- cell. Through all of it the thread's own words are a list as in an unlock, whole or in change. A wait that is
-- awake again goes on as a lock of its mutex, whose entry is pending. Source: pthread_cond_wait(3p),
-- pthread_cond_signal(3p), pthread_cond_broadcast(3p); robust-futexes.
use Rattle.std.specs.Prelude.{◌≡◌, ◌≢◌, ℕ, ◌+◌, ◌-◌, ◌<◌, ◌≤◌, Bool, true, false, Option, Some, List, bit_or, length}
use Rattle.lockword.specs.Cells.{fields_of}
use Rattle.lockword.specs.declared.reply.Reply.TheVariants.{OK}
use Rattle.stepprograms.specs.declared.access.Access.{Access}
use Rattle.stepprograms.specs.declared.access.Access.TheVariants.{Wait as AtWait, CmpRequeue}
use Rattle.posixmutex.specs.declared.object.Object.{Object}
use Rattle.posixmutex.specs.declared.point.Operation.TheVariants as operation
use Rattle.stepprograms.specs.Accesses.{answer_at, changed}
use Rattle.posixmutex.specs.Histories.{is_thread}
use Rattle.memorymap.specs.Layouts.{Layout', address_in, counter_place, place_in}
use Rattle.posixmutex.specs.Objects.{fresh, held_limit, object_of, Run}
use Rattle.mutex.specs.declared.phase.Phase.{Phase}
use Rattle.mutex.specs.declared.phase.Phase.TheVariants as phase
use Rattle.mutex.specs.declared.row.Row.TheVariants as row
use Rattle.mutex.specs.declared.unlock.UnlockRow.TheVariants as unlock
use Rattle.mutex.specs.Laws.{points}
use Rattle.mutex.specs.Standings.{Standing, Whole}
use Rattle.condvar.specs.declared.broadcast.BroadcastRow.TheVariants as broadcast
use Rattle.condvar.specs.declared.phase.CondPhase.{CondPhase}
use Rattle.condvar.specs.declared.phase.CondPhase.TheVariants as condition
use Rattle.condvar.specs.declared.row.CondLed.{CondLed}
use Rattle.condvar.specs.declared.row.CondRow.{CondRow}
use Rattle.condvar.specs.declared.row.CondRow.TheVariants as cond
use Rattle.condvar.specs.declared.signal.SignalRow.TheVariants as signal
use Rattle.condvar.specs.declared.wait.WaitRow.TheVariants as wait
use Rattle.condvar.specs.Broadcast.{waiters_bit}
use Rattle.condvar.specs.Laws.{largest_counter}
use Rattle.condvar.specs.Programs.{point_of, resume_of, row_access}
use Rattle.condvar.specs.Standings.{CondWhole}
use Rattle.ruledwords.specs.declared.pass.Card.{Card}
use Rattle.ruledwords.specs.declared.pass.Change.{Change}
use Rattle.ruledwords.specs.Calls.{Made, OwnKept}
use Rattle.ruledwords.specs.Cards.{at, value_at, mark_at, put_mark}
use Rattle.ruledwords.specs.Changes.{Writes}
use Rattle.ruledwords.specs.Counts.{cell_at}
use Rattle.ruledwords.specs.Looks.{Finds, noted}
use Rattle.ruledwords.specs.Rules.{Sat, At, Turns}
use Rattle.ruledwords.specs.Seen.{holds, Sees}
use Rattle.std.proofs.Props.{props}

-- ---- where a call stands

-- what a call does at its mutex's cell and at its counter: whose call it is, the addresses of both, and where it stands
pub record CondStanding : Type 0 where
  pub thread : ℕ
  pub cell : ℕ
  pub counter : ℕ
  pub row : CondRow

-- while a wait takes its mutex out of the list, it stands before its release
abbrev pub cond_row_in : CondPhase → CondRow
cond_row_in (condition.AtWords r) = r
cond_row_in (condition.Announcing seen) = cond.Wait (wait.Release seen)
cond_row_in (condition.Unlinking u seen) = cond.Wait (wait.Release seen)
cond_row_in (condition.Locking w) = cond.Awake
cond_row_in (condition.Ended x) = cond.Ended x

abbrev pub cond_standing : CondWhole → CondStanding
cond_standing p = record { thread = p.thread; cell = p.cell; counter = p.counter; row = cond_row_in p.phase }

-- the number of its condition variable: that of the counter at its address
abbrev pub condition_at : Layout' → CondWhole → ℕ
condition_at k p = place_in k p.thread p.counter - counter_place k 0

-- the call is on condition variable q of the layout
pub record IsOnCondition (k : Layout') (q : ℕ) (p : CondStanding) : Type 0 where
  pub inside : q < length k.conditions
  pub cell : p.cell ≡ address_in k p.thread (cell_at k q)
  pub counter : p.counter ≡ address_in k p.thread (counter_place k q)

-- it is at the cell, at the counter or at its thread's own list. Whoever is awake again is in a lock
abbrev pub IsAtCondition : CondPhase → Type 0
IsAtCondition (condition.Locking w) = ⊥
IsAtCondition (condition.Ended x) = ⊥
IsAtCondition f = Unit {0}

pub at_condition_prop : (f : CondPhase) → IsProp (IsAtCondition f)
at_condition_prop (condition.AtWords r) = Prim.hlevel props
at_condition_prop (condition.Announcing seen) = Prim.hlevel props
at_condition_prop (condition.Unlinking u seen) = Prim.hlevel props
at_condition_prop (condition.Locking w) = Prim.hlevel props
at_condition_prop (condition.Ended x) = Prim.hlevel props

-- this many mutexes its thread holds at most: after the release one less, as a wait takes its mutex again
abbrev pub most_behind : CondRow → ℕ
most_behind (cond.Wait (wait.Wake seen)) = held_limit - 1
most_behind (cond.Wait (wait.Sleep seen)) = held_limit - 1
most_behind r = held_limit

-- the phase of an unlock in which a thread's list is as in this one. A wait's entry is pending from before its release
-- on, as an unlock's is until it clears it
abbrev pub list_phase : CondPhase → Phase
list_phase (condition.AtWords (cond.Wait (wait.Release seen))) = phase.AtCell (row.Unlock (unlock.Release false))
list_phase (condition.AtWords (cond.Wait (wait.Wake seen))) = phase.Clearing OK
list_phase (condition.AtWords (cond.Wait (wait.Sleep seen))) = phase.Clearing OK
list_phase (condition.AtWords r) = phase.AtCell (row.Unlock unlock.Load)
list_phase (condition.Announcing seen) = phase.Announcing (row.Unlock (unlock.Release false))
list_phase (condition.Unlinking u seen) = phase.Unlinking u false
list_phase (condition.Locking w) = w.phase
list_phase (condition.Ended x) = phase.Ended x

abbrev pub unlock_of : CondWhole → Whole
unlock_of p = record {
  thread = p.thread;
  operation = operation.Unlock;
  head = p.head;
  entry = p.entry;
  cell = p.cell;
  phase = list_phase p.phase;
}

-- ---- what it needs

-- what a row needs of the mutex, of the counter's value as far as its thread knows that, and of what it remembers of
-- WAITERS in the cell: a broadcast moves sleepers to a cell where they are set
abbrev pub Needs : ℕ → CondRow → Object → Option ℕ → Bool → Type 0
Needs t (cond.Wait wait.LoadCounter) o v b = (o.owner ≡ Some t) × (o.inconsistent ≡ false)
Needs t (cond.Wait (wait.Release seen)) o v b = (o.owner ≡ Some t) × (o.inconsistent ≡ false)
Needs t (cond.Signal signal.LoadCounter) o v b = o.owner ≡ Some t
Needs t (cond.Signal signal.Count) o v b = (o.owner ≡ Some t) × ((x : ℕ) × (v ≡ Some x) × (x ≢ largest_counter))
Needs t (cond.Broadcast broadcast.LoadCounter) o v b = o.owner ≡ Some t
Needs t (cond.Broadcast (broadcast.Count seen)) o v b = (o.owner ≡ Some t) × (v ≡ Some seen) × (seen ≢ largest_counter)
Needs t (cond.Broadcast (broadcast.SetWaiters seen)) o v b = (o.owner ≡ Some t) × (v ≡ Some (seen + 1))
Needs t (cond.Broadcast (broadcast.Move seen)) o v b = (o.owner ≡ Some t) × (v ≡ Some (seen + 1)) × (b ≡ true)
Needs t r o v b = Unit {0}

-- it is so, as far as the card's thread has seen the mutex
abbrev pub CondReady : Layout' → ℕ → CondRow → Card → Type 0
CondReady k q r c = (o : Object) → Run fresh (at c.seen (cell_at k q)) o
    → Needs c.thread r o (value_at c.values (counter_place k q)) (mark_at c.marks (cell_at k q))

-- ---- its accesses

abbrev pub access_at : CondStanding → Access
access_at p = row_access p.thread p.cell p.counter p.row

-- where it goes when its access meets this word
abbrev pub cond_led_at : CondStanding → ℕ → CondLed
cond_led_at p n = resume_of p.thread p.row (answer_at (access_at p) n)

-- the point of the access, at the place of the mutex's cell
abbrev pub decides_at : Layout' → ℕ → CondStanding → Card → ℕ → List Rattle.posixmutex.specs.declared.point.Point.Point
decides_at k q p c n = points (point_of c.thread (cell_at k q) (cond_led_at p n).decided)

-- its first load, of the cell: the word was n
pub record Meets (k : Layout') (q : ℕ) (p : CondStanding) (c : Card) (n : ℕ) (d : Card) : Type 0 where
  pub sees : Sees c (cell_at k q) (decides_at k q p c n) (object_of (fields_of n)) d
  pub misses : d.misses ≡ c.misses
  pub last : d.last ≡ n
  pub writes : Writes c (cell_at k q) n n d
  pub holder : holds c.thread (at c.seen (cell_at k q)) ≡ is_thread c.thread (object_of (fields_of n)).owner
  pub kept : OwnKept k c d

-- a load of the counter, or a count: the word was n. The thread owns the mutex, which this leaves as it is; so it knows
-- the counter's value then, which is the one that it knew, if it knew one
pub record Counts (k : Layout') (q : ℕ) (p : CondStanding) (c : Card) (n : ℕ) (d : Card) : Type 0 where
  pub object : Object
  pub sees : Sees c (cell_at k q) (decides_at k q p c n) object d
  pub owner : object.owner ≡ Some c.thread
  pub still : (o : Object) → Run fresh (at c.seen (cell_at k q)) o → object ≡ o
  pub misses : d.misses ≡ c.misses
  pub counted : d.counted ≡ n
  pub writes : Writes c (counter_place k q) n (changed (access_at p) n) d
  pub known : (x : ℕ) → value_at c.values (counter_place k q) ≡ Some x → n ≡ x
  pub value : value_at d.values (counter_place k q) ≡ Some (changed (access_at p) n)
  pub within : n ≤ largest_counter
  pub kept : OwnKept k c d

-- a wait's release is that of an unlock of a consistent mutex
abbrev pub release_of : CondStanding → Standing
release_of p = record { thread = p.thread; cell = p.cell; row = row.Unlock (unlock.Release false) }

-- a thread that found the word n in the cell at q and set WAITERS there, which it remembers
abbrev pub having_set : Card → ℕ → ℕ → List (List Change) → Card
having_set c q n zs = record c { last = n; marks = put_mark c.marks q true; changes = zs }

-- an access at the cell or at the counter, by its row. Where a broadcast sets WAITERS, nothing new is seen; they
-- stay set while its thread owns the mutex
abbrev pub Acted : Layout' → ℕ → CondStanding → CondRow → Card → ℕ → Card → Type 0
Acted k q p (cond.Wait wait.LoadCounter) c n d = Counts k q p c n d
Acted k q p (cond.Wait (wait.Release seen)) c n d = Made (release_of p) (cell_at k q) c n d × OwnKept k c d
Acted k q p (cond.Signal signal.LoadCounter) c n d = Counts k q p c n d
Acted k q p (cond.Signal signal.Count) c n d = Counts k q p c n d
Acted k q p (cond.Broadcast broadcast.LoadCounter) c n d = Counts k q p c n d
Acted k q p (cond.Broadcast (broadcast.Count seen)) c n d = Counts k q p c n d
Acted k q p (cond.Broadcast (broadcast.SetWaiters seen)) c n d = (d ≡ having_set c (cell_at k q) n d.changes)
    × Finds c (cell_at k q) n × Writes c (cell_at k q) n (bit_or n waiters_bit) d
Acted k q p r c n d = Meets k q p c n d

abbrev pub acted : Layout' → ℕ → CondStanding → At → Sat → ℕ → Sat → Type 0
acted k q p st me r me' = Turns me me' (λ c d. Acted k q p p.row c r d)

-- ---- a look at the counter, for a section that compares it

-- the word was r. Nothing new is seen
abbrev pub looked_at_counter : At → Sat → ℕ → Sat → Type 0
looked_at_counter st me r me' = Turns me me'
    (λ c d. (d ≡ noted c r c.trims c.changes) × (r ≤ largest_counter)
    × ((x : ℕ) → value_at c.values st.word ≡ Some x → r ≡ x))

-- a section that compares a counter
abbrev pub Compares : Access → Type 0
Compares (AtWait at e) = Unit {0}
Compares (CmpRequeue from e n to m) = Unit {0}
Compares a = ⊥

-- a section that moves sleepers
abbrev pub IsMove : Access → Type 0
IsMove (CmpRequeue from e n to m) = Unit {0}
IsMove a = ⊥
