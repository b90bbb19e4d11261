-- What every call keeps, whatever the words that it meets and the answers that it gets.
--
-- *A right program.* Each access, whatever word it meets and whoever sleeps there, is a step of the mutex as an object
-- with the point's operation and reply, or leaves the object; a call has one point at most, and returns its reply.
--
-- *WAITERS and trims.* Each access of a call but a trim leaves WAITERS where it is set; a call at its cell comes to a
-- trim exactly where an unlock was to wake one thread and woke nobody; and a whole unlock goes on to its trim there.
-- The laws `waiters_are_kept`, `unlocks_trim_after_waking_nobody`.
use Rattle.std.specs.Prelude.{ℕ, ◌≡◌, ◌≢◌, ◌↔◌, ◌+◌, ◌≤◌, ◌<◌, Bool, true, Option, Some, None, List, [], ◌∷◌}
use Rattle.lockword.specs.Cells.{Fields, fields_of}
use Rattle.lockword.specs.declared.reply.Reply.{Reply}
use Rattle.lockword.specs.declared.reply.Reply.TheVariants.{OK, ENOTRECOVERABLE, XRACED}
use Rattle.lockword.specs.Threads.{most_threads}
use Rattle.stepprograms.specs.declared.access.Access.TheVariants as access
use Rattle.stepprograms.specs.declared.access.Answer.{Answer}
use Rattle.stepprograms.specs.declared.access.Answer.TheVariants.{Value, Exchanged, Changed, Count}
use Rattle.posixmutex.specs.declared.point.Operation.{Operation}
use Rattle.posixmutex.specs.declared.point.Operation.TheVariants as operation
use Rattle.posixmutex.specs.declared.point.Point.{Point}
use Rattle.posixmutex.specs.declared.object.Object.{Object}
use Rattle.stepprograms.specs.Accesses.{word_among, answer_among}
use Rattle.posixmutex.specs.Objects.{Permits, Run, object_of}
use Rattle.mutex.specs.declared.lock.LockRow.TheVariants as lock
use Rattle.mutex.specs.declared.try_lock.TryLockRow.TheVariants as try
use Rattle.mutex.specs.declared.unlock.UnlockRow.TheVariants as unlock
use Rattle.mutex.specs.declared.consistent.ConsistentRow.TheVariants as consistent
use Rattle.mutex.specs.declared.row.Row.{Row}
use Rattle.mutex.specs.declared.row.Row.TheVariants.{Lock, TryLock, Unlock, Consistent, Ended}
use Rattle.mutex.specs.declared.row.Led.{Led}
use Rattle.mutex.specs.Rows.{Knows, IsGoing}
use Rattle.mutex.specs.Programs.{row_access, resume_of, row_operation, point_of}

-- what a call that is at a row needs of the mutex: a release and a declaration need that its thread still owns it
abbrev pub Expects : ℕ → Row → Object → Type 0
Expects t (Unlock (unlock.Release died)) o = (o.owner ≡ Some t) × (o.inconsistent ≡ died)
Expects t (Consistent consistent.Declare) o = (o.owner ≡ Some t) × (o.inconsistent ≡ true)
Expects t r o = Unit {0}

-- an unusable mutex has no owner
abbrev pub Sound : Object → Type 0
Sound o = o.unusable ≡ true → o.owner ≡ None

abbrev pub points : Option Point → List Point
points None = []
points (Some p) = p ∷ []

-- the reply of a call's point, once that is made
abbrev pub decided : Row → Option Reply
decided (Lock lock.WakeAll) = Some ENOTRECOVERABLE
decided (Unlock (unlock.Wake all)) = Some OK
decided (Unlock unlock.Trim) = Some OK
decided (Ended x) = Some x
decided r = None

-- a call that is undecided may have its point now, and one that is decided has no other
abbrev pub Joins : Option Reply → Option Reply → Option Reply → Type 0
Joins None x y = y ≡ x
Joins (Some r) x y = (x ≡ None) × (y ≡ Some r)

-- a row at which a call has this operation
abbrev pub IsOf : Operation → Row → Type 0
IsOf op (Ended x) = Unit {0}
IsOf op r = row_operation r ≡ op

-- one access of a call at row r, which meets the word w, leaves the word w' and leads to l, is a step of the mutex as
-- an object, and leaves what the next row needs
pub record Right (t cell : ℕ) (r : Row) (l : Led) (w w' : ℕ) : Type 0 where
  pub runs : Run (object_of (fields_of w)) (points (point_of t cell (row_operation r) l.point))
      (object_of (fields_of w'))
  pub knows : Knows l.row
  pub expects : Expects t l.row (object_of (fields_of w'))
  pub sound : Sound (object_of (fields_of w'))
  pub tells : Joins (decided r) l.point (decided l.row)
  pub stays : IsOf (row_operation r) l.row

-- whatever word an access meets, and whoever sleeps on it
abbrev pub ProgramsAreRight : Type 0
ProgramsAreRight = (t cell w : ℕ) (queue : List ℕ) (r : Row) → 1 ≤ t → t ≤ most_threads → IsGoing r → Knows r
    → Sound (object_of (fields_of w)) → Expects t r (object_of (fields_of w))
    → Right t cell r (resume_of t r (answer_among (row_access t cell r) w queue)) w
    (word_among (row_access t cell r) w queue)

-- WAITERS stays through every access of a call but a trim: taking, releasing and declaring keep it
abbrev pub WaitersAreKept : Type 0
WaitersAreKept = (t cell w : ℕ) (queue : List ℕ) (r : Row) → t ≤ most_threads → IsGoing r → Knows r
    → Expects t r (object_of (fields_of w)) → row_access t cell r ≢ access.Trim cell
    → (fields_of w).waiters ≡ true → (fields_of (word_among (row_access t cell r) w queue)).waiters ≡ true

-- a call comes to a trim exactly where an unlock was to wake one thread and woke nobody, whatever it was answered
-- before
abbrev pub UnlocksTrim : Type 0
UnlocksTrim = (t cell : ℕ) (r : Row) (a : Answer) → 1 ≤ t → IsGoing r → Knows r
    → (row_access t cell (resume_of t r a).row ≡ access.Trim cell)
    ↔ ((row_operation r ≡ operation.Unlock) × (row_access t cell r ≡ access.Wake cell 1) × (a ≡ Count 0))

-- where a call stands after some answers, whatever they are
abbrev pub reached : ℕ → Row → List Answer → Row
reached t r [] = r
reached t r (a ∷ answers) = reached t (resume_of t r a).row answers

abbrev pub tells_change : Answer → ℕ
tells_change (Changed w) = 1
tells_change a = 0

-- how many of the answers told of a changed cell
abbrev pub changes : List Answer → ℕ
changes [] = 0
changes (a ∷ answers) = tells_change a + changes answers

-- a trylock gives up only after four exchanges that each found a changed cell
abbrev pub RacedAfterFour : Type 0
RacedAfterFour =
    (t : ℕ) (answers : List Answer) → reached t (TryLock try.Load) answers ≡ Ended XRACED → 4 ≤ changes answers

-- one that tries still has met three at most: after the fourth it gives up
abbrev pub GivesUpAfterFour : Type 0
GivesUpAfterFour = (t : ℕ) (answers : List Answer) (v : Fields) (k : ℕ)
    → reached t (TryLock try.Load) answers ≡ TryLock (try.Take v k) → changes answers < 4

-- the cell that an access met, as its answer tells: that of a release and of a declaration is recorded by the call's
-- first load
abbrev pub met : Row → Answer → Option Fields
met (Lock lock.Load) (Value w) = Some (fields_of w)
met (Lock (lock.Take seen)) Exchanged = Some seen
met (Lock (lock.Take seen)) (Changed w) = Some (fields_of w)
met (Lock (lock.SetWaiters seen)) (Changed w) = Some (fields_of w)
met (TryLock try.Load) (Value w) = Some (fields_of w)
met (TryLock (try.Take seen k)) Exchanged = Some seen
met (TryLock (try.Take seen k)) (Changed w) = Some (fields_of w)
met (Unlock unlock.Load) (Value w) = Some (fields_of w)
met (Consistent consistent.Load) (Value w) = Some (fields_of w)
met r a = None

-- the object permits the reply
abbrev pub IsPermitted : Fields → ℕ → Operation → Reply → Type 0
IsPermitted c t op x = (new : Object) × Permits (object_of c) t op x new

abbrev pub PermitsAt : Option Fields → ℕ → Operation → Reply → Type 0
PermitsAt None t op x = Unit {0}
PermitsAt (Some c) t op x = IsPermitted c t op x

-- for any answers: a point has a reply that the object permits for the cell met there; and a call stands before a
-- release or a declaration only where it loaded a cell for which that is permitted
pub record PointsArePermitted : Type 0 where
  pub at : (t : ℕ) (r : Row) (a : Answer) (x : Reply) → 1 ≤ t → Knows r → (resume_of t r a).point ≡ Some x
      → PermitsAt (met r a) t (row_operation r) x
  pub release : (t : ℕ) (r : Row) (a : Answer) (d : Bool) → 1 ≤ t → (resume_of t r a).row ≡ Unlock (unlock.Release d)
      → (c : Fields) × (met r a ≡ Some c) × IsPermitted c t operation.Unlock OK × (c.died ≡ d)
  pub declaration : (t : ℕ) (r : Row) (a : Answer) → 1 ≤ t → (resume_of t r a).row ≡ Consistent consistent.Declare
      → (c : Fields) × (met r a ≡ Some c) × IsPermitted c t operation.Consistent OK
