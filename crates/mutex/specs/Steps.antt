-- What one access of a call tells beyond the object.
--
-- *One step more.* What an access that is no futex section leaves beside the object: WAITERS stays and the bits above
-- the flags stay clear, a release tells whom it has to wake by the word that it found, and except for a lock the
-- call has fewer steps left, whatever others do.
use Rattle.std.specs.Prelude.{ℕ, ◌≡◌, ◌≢◌, ◌-◌, ◌<◌, true, false}
use Rattle.std.proofs.Props.{props}
use Rattle.lockword.specs.Cells.{Fields, fields_of}
use Rattle.lockword.specs.declared.reply.Reply.TheVariants.{OK, EPERM}
use Rattle.stepprograms.specs.declared.access.Access.{Access}
use Rattle.stepprograms.specs.declared.access.Access.TheVariants.{Load, Exchange, FetchXor, FetchOr, FetchAnd}
use Rattle.posixmutex.specs.declared.object.Object.{Object}
use Rattle.posixmutex.specs.declared.point.Operation.{Operation}
use Rattle.posixmutex.specs.declared.point.Operation.TheVariants as operation
use Rattle.mutex.specs.declared.lock.LockRow.TheVariants as lock
use Rattle.mutex.specs.declared.try_lock.TryLockRow.TheVariants as try
use Rattle.mutex.specs.declared.unlock.UnlockRow.TheVariants as unlock
use Rattle.mutex.specs.declared.consistent.ConsistentRow.TheVariants as consistent
use Rattle.mutex.specs.declared.row.Row.{Row}
use Rattle.mutex.specs.declared.row.Row.TheVariants.{Lock, TryLock, Unlock, Consistent, Ended}
use Rattle.mutex.specs.declared.row.Led.{Led}
use Rattle.mutex.specs.Rows.{Knows}
use Rattle.mutex.specs.Programs.{row_operation}
use Rattle.mutex.specs.Laws.{Expects}

-- the access is one step on one word, and no section
abbrev pub IsStep : Access → Type 0
IsStep (Load at) = Unit {0}
IsStep (Exchange at old new) = Unit {0}
IsStep (FetchXor at v) = Unit {0}
IsStep (FetchOr at v) = Unit {0}
IsStep (FetchAnd at v) = Unit {0}
IsStep a = ⊥

-- this many steps a call that is there still makes, at most, whatever others do; a lock has no such number
abbrev pub rank : Row → ℕ
rank (TryLock try.Load) = 6
rank (TryLock (try.Take seen k)) = 5 - k
rank (Unlock unlock.Load) = 2
rank (Unlock (unlock.Release d)) = 1
rank (Consistent consistent.Load) = 2
rank (Consistent consistent.Declare) = 1
rank r = 0

-- what the row after an access says of the cell that it met: a release that has somebody to wake found WAITERS there
-- and OWNER_DIED as its row tells; one that has nobody found no WAITERS; an unlock that isn't refused has no other end;
-- and no step leads to a trim, only a wake does
abbrev pub Tells : Operation → Row → Fields → Type 0
Tells op (Unlock (unlock.Wake all)) c = (c.waiters ≡ true) × (c.died ≡ all)
Tells op (Unlock unlock.Trim) c = ⊥
Tells operation.Unlock (Ended OK) c = c.waiters ≡ false
Tells operation.Unlock (Ended EPERM) c = Unit {0}
Tells operation.Unlock (Ended x) c = ⊥
Tells op r c = Unit {0}

-- one step of a call at row r, which meets the word w, leaves the word w' and leads to l: what its next row says of the
-- cell met is so, WAITERS stays, the bits above the flags stay clear, and except for a lock fewer steps are left
pub record Minds (r : Row) (l : Led) (w w' : ℕ) : Type 0 where
  pub tells : Tells (row_operation r) l.row (fields_of w)
  pub waiters : (fields_of w).waiters ≡ true → (fields_of w').waiters ≡ true
  pub rest : (fields_of w).rest ≡ 0 → (fields_of w').rest ≡ 0
  pub falls : row_operation r ≢ operation.Lock → rank l.row < rank r

-- what a row knows and needs has one proof at most
pub Knows-prop : (r : Row) → IsProp (Knows r)
Knows-prop (Ended x) = Prim.hlevel props
Knows-prop (Lock lock.Load) = Prim.hlevel props
Knows-prop (Lock (lock.Take seen)) = Prim.hlevel props
Knows-prop (Lock (lock.SetWaiters seen)) = Prim.hlevel props
Knows-prop (Lock (lock.Sleep seen)) = Prim.hlevel props
Knows-prop (Lock lock.WakeAll) = Prim.hlevel props
Knows-prop (TryLock try.Load) = Prim.hlevel props
Knows-prop (TryLock (try.Take seen k)) = Prim.hlevel props
Knows-prop (Unlock u) = Prim.hlevel props
Knows-prop (Consistent u) = Prim.hlevel props

pub Expects-prop : (t : ℕ) (r : Row) (o : Object) → IsProp (Expects t r o)
Expects-prop t (Ended x) o = Prim.hlevel props
Expects-prop t (Lock r) o = Prim.hlevel props
Expects-prop t (TryLock r) o = Prim.hlevel props
Expects-prop t (Unlock unlock.Load) o = Prim.hlevel props
Expects-prop t (Unlock (unlock.Release d)) o = Prim.hlevel props
Expects-prop t (Unlock (unlock.Wake a)) o = Prim.hlevel props
Expects-prop t (Unlock unlock.Trim) o = Prim.hlevel props
Expects-prop t (Consistent consistent.Load) o = Prim.hlevel props
Expects-prop t (Consistent consistent.Declare) o = Prim.hlevel props
