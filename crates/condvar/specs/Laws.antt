-- What every call on a condition variable keeps, whatever words it meets and whatever it is answered.
--
-- *A right call on a condition variable.* Each access but those of the lock that ends a wait, whatever words it meets,
-- is a step of the mutex as an object with the point's operation and reply, or leaves the object; WAITERS stays; the
-- counter goes up by one exactly where a signal or a broadcast is OK, stays within 2^32 - 1, and is that where X_FULL
-- is the reply. A release, a count and a setting of WAITERS are made by the mutex's owner; a move finds WAITERS set and
-- the counter one more than it was.
--
-- *Where its accesses are, and whose words they need.* At the cell and at the counter alone; a broadcast moves to a
-- cell that its thread owns and that has WAITERS, and finds the counter as it left it; and what a call needs of the
-- words stays as long as others leave what is an owner's, WAITERS in its cell too.
--
-- *Permitted for any answer, of conditions.* Whatever it is answered, what a call decides at its first load is what the
-- object permits for the cell met there; and it goes on from there only where the object permits what it may decide
-- later.
use Rattle.std.specs.Prelude.{ℕ, ◌≡◌, ◌≢◌, ◌+◌, ◌%◌, ◌^◌, ◌≤◌, Bool, true, false, Option, Some, None, if◌then◌else◌}
use Rattle.lockword.specs.Cells.{Fields, fields_of}
use Rattle.lockword.specs.declared.reply.Reply.{Reply}
use Rattle.lockword.specs.declared.reply.Reply.TheVariants.{OK, XFULL}
use Rattle.lockword.specs.Threads.{most_threads}
use Rattle.stepprograms.specs.declared.access.Access.TheVariants as access
use Rattle.stepprograms.specs.declared.access.Answer.{Answer}
use Rattle.stepprograms.specs.declared.access.Answer.TheVariants.{Value}
use Rattle.posixmutex.specs.declared.point.Operation.{Operation}
use Rattle.posixmutex.specs.declared.point.Operation.TheVariants as operation
use Rattle.stepprograms.specs.Accesses.{address_of, changed, answer_at}
use Rattle.posixmutex.specs.Objects.{Run, object_of}
use Rattle.mutex.specs.Laws.{Sound, points, IsPermitted, PermitsAt}
use Rattle.condvar.specs.declared.wait.WaitRow.TheVariants as wait
use Rattle.condvar.specs.declared.signal.SignalRow.TheVariants as signal
use Rattle.condvar.specs.declared.broadcast.BroadcastRow.TheVariants as broadcast
use Rattle.condvar.specs.declared.row.CondRow.{CondRow}
use Rattle.condvar.specs.declared.row.CondRow.TheVariants.{Wait, Signal, Broadcast, Ended}
use Rattle.condvar.specs.declared.row.CondLed.{CondLed}
use Rattle.condvar.specs.declared.row.Decided.{Decided}
use Rattle.condvar.specs.Rows.{IsGoing}
use Rattle.condvar.specs.Programs.{row_access, resume_of, point_of}

-- the access of a row is at the counter, and not at the cell
abbrev pub is_at_counter : CondRow → Bool
is_at_counter (Wait wait.LoadCounter) = true
is_at_counter (Wait (wait.Sleep seen)) = true
is_at_counter (Signal signal.LoadCounter) = true
is_at_counter (Signal signal.Count) = true
is_at_counter (Signal signal.Wake) = true
is_at_counter (Broadcast broadcast.LoadCounter) = true
is_at_counter (Broadcast (broadcast.Count seen)) = true
is_at_counter (Broadcast (broadcast.Move seen)) = true
is_at_counter r = false

-- of the cell's word w and the counter's word k, the one that the access of a row meets, and both after it
abbrev pub met_word : CondRow → ℕ → ℕ → ℕ
met_word r w k = if is_at_counter r then k else w

abbrev pub cell_after : ℕ → ℕ → ℕ → CondRow → ℕ → ℕ
cell_after t cell counter r w = if is_at_counter r then w else changed (row_access t cell counter r) w

abbrev pub counter_after : ℕ → ℕ → ℕ → CondRow → ℕ → ℕ
counter_after t cell counter r k = if is_at_counter r then changed (row_access t cell counter r) k else k

-- the largest value of a counter, which has the 32 bits of a futex word (futex(2)): 2^32 - 1
abbrev pub largest_counter : ℕ
largest_counter = 4294967295

-- what a call that is at a row needs of the cell and of the counter. A release, a count and a setting of WAITERS
-- need that its thread owns the mutex; a release that it is consistent, a count that the counter isn't full, a move
-- that WAITERS is set and that the counter is one more than it was
abbrev pub Expects : ℕ → CondRow → Fields → ℕ → Type 0
Expects t (Wait wait.LoadCounter) c k = (c.owner ≡ t) × (c.died ≡ false)
Expects t (Wait (wait.Release seen)) c k = (c.owner ≡ t) × (c.died ≡ false)
Expects t (Signal signal.LoadCounter) c k = c.owner ≡ t
Expects t (Signal signal.Count) c k = (c.owner ≡ t) × (k ≢ largest_counter)
Expects t (Signal signal.Wake) c k = c.owner ≡ t
Expects t (Broadcast broadcast.LoadCounter) c k = c.owner ≡ t
Expects t (Broadcast (broadcast.Count seen)) c k = (c.owner ≡ t) × (k ≢ largest_counter) × (k ≡ seen)
Expects t (Broadcast (broadcast.SetWaiters seen)) c k = (c.owner ≡ t) × (k ≡ seen + 1)
Expects t (Broadcast (broadcast.Move seen)) c k = (c.owner ≡ t) × (k ≡ seen + 1) × (c.waiters ≡ true)
Expects t r c k = Unit {0}

-- by how much a call's point counts: by one where a signal or a broadcast is OK, and else not at all
abbrev pub reply_counts : Operation → Reply → ℕ
reply_counts operation.Signal OK = 1
reply_counts operation.Broadcast OK = 1
reply_counts op x = 0

abbrev pub counts_by : Option Decided → ℕ
counts_by None = 0
counts_by (Some d) = reply_counts d.operation d.reply

-- a refusal with X_FULL is one of a full counter
abbrev pub ReplyFits : Reply → ℕ → Type 0
ReplyFits XFULL k = k ≡ largest_counter
ReplyFits x k = Unit {0}

abbrev pub IsFullAt : Option Decided → ℕ → Type 0
IsFullAt None k = Unit {0}
IsFullAt (Some d) k = ReplyFits d.reply k

-- the call that a row belongs to
abbrev pub row_operation : CondRow → Operation
row_operation (Signal r) = operation.Signal
row_operation (Broadcast r) = operation.Broadcast
row_operation r = operation.Wait

abbrev pub IsOf : Operation → CondRow → Type 0
IsOf op (Ended x) = Unit {0}
IsOf op r = row_operation r ≡ op

-- one access of a call at row r, which meets the cell's word w and the counter's word k, leaves w' and k' and leads to
-- l
pub record Right (t cell : ℕ) (r : CondRow) (l : CondLed) (w k w' k' : ℕ) : Type 0 where
  -- it is a step of the mutex as an object, or leaves it
  pub runs : Run (object_of (fields_of w)) (points (point_of t cell l.decided)) (object_of (fields_of w'))
  pub sound : Sound (object_of (fields_of w'))
  -- WAITERS stays
  pub waiters : (fields_of w).waiters ≡ true → (fields_of w').waiters ≡ true
  -- the counter goes up by one exactly where a signal or a broadcast is OK, stays within its limit, and is full where
  -- X_FULL is the reply
  pub counts : k' ≡ k + counts_by l.decided
  pub within : k' ≤ largest_counter
  pub is_full : IsFullAt l.decided k
  -- the words are as the next row needs them
  pub expects : Expects t l.row (fields_of w') k'
  pub stays : IsOf (row_operation r) l.row

-- whatever words an access meets
abbrev pub CallsAreRight : Type 0
CallsAreRight = (t cell counter w k : ℕ) (r : CondRow) → 1 ≤ t → t ≤ most_threads → IsGoing r → k ≤ largest_counter
    → Sound (object_of (fields_of w)) → Expects t r (fields_of w) k
    → Right t cell r (resume_of t r (answer_at (row_access t cell counter r) (met_word r w k))) w k
    (cell_after t cell counter r w) (counter_after t cell counter r k)

-- a call's accesses are at the cell and at the counter alone
abbrev pub AccessesAreThere : Type 0
AccessesAreThere = (t cell counter : ℕ) (r : CondRow)
    → address_of (row_access t cell counter r) ≡ (if is_at_counter r then counter else cell)

-- a broadcast moves to a cell that its thread owns and that has WAITERS, and only by the counter as it is: so it is
-- never answered that this differs
abbrev pub MovesAreRight : Type 0
MovesAreRight =
    (t cell counter seen k : ℕ) (c : Fields) → k ≤ largest_counter → Expects t (Broadcast (broadcast.Move seen)) c k
    → (row_access t cell counter (Broadcast (broadcast.Move seen))
    ≡ access.CmpRequeue counter (k % 2 ^ 32) 0 cell most_threads)
    × (c.owner ≡ t) × (c.waiters ≡ true)

-- what a call needs of the words is its thread's own while that owns the mutex: where others leave then the owner,
-- OWNER_DIED and the counter, and clear no WAITERS then, it stays so
abbrev pub NeedsAreOwned : Type 0
NeedsAreOwned = (t : ℕ) (r : CondRow) (c d : Fields) (k j : ℕ)
    → (c.owner ≡ t → (d.owner ≡ c.owner) × (d.died ≡ c.died) × (j ≡ k) × (c.waiters ≡ true → d.waiters ≡ true))
    → Expects t r c k → Expects t r d j

-- the cell that an access met, as its answer tells: each call's first load
abbrev pub met : CondRow → Answer → Option Fields
met (Wait wait.LoadCell) (Value w) = Some (fields_of w)
met (Signal signal.LoadCell) (Value w) = Some (fields_of w)
met (Broadcast broadcast.LoadCell) (Value w) = Some (fields_of w)
met r a = None

-- a call goes on to its counter only from a cell for which the object permits it to decide so
abbrev pub GoesOnFrom : ℕ → CondRow → Option Fields → Type 0
GoesOnFrom t (Wait wait.LoadCounter) (Some c) = IsPermitted c t operation.Unlock OK × (c.died ≡ false)
GoesOnFrom t (Signal signal.LoadCounter) (Some c) =
    IsPermitted c t operation.Signal OK × IsPermitted c t operation.Signal XFULL
GoesOnFrom t (Broadcast broadcast.LoadCounter) (Some c) =
    IsPermitted c t operation.Broadcast OK × IsPermitted c t operation.Broadcast XFULL
GoesOnFrom t (Wait wait.LoadCounter) None = ⊥
GoesOnFrom t (Signal signal.LoadCounter) None = ⊥
GoesOnFrom t (Broadcast broadcast.LoadCounter) None = ⊥
GoesOnFrom t r c = Unit {0}

-- for any answers: what a first load decides is what the object permits for the cell met there, and a call goes on from
-- it only where its thread owns the mutex
pub record PointsArePermitted : Type 0 where
  pub at : (t : ℕ) (r : CondRow) (a : Answer) (d : Decided) → 1 ≤ t → (resume_of t r a).decided ≡ Some d
      → PermitsAt (met r a) t d.operation d.reply
  pub goes_on : (t : ℕ) (r : CondRow) (a : Answer) → 1 ≤ t → GoesOnFrom t (resume_of t r a).row (met r a)
