-- Whatever a call is answered, its reply is permitted for the cell that it met.
use Rattle.std.proofs.Common.{◌≡◌, ℕ, ◌+◌, ◌≤◌, ◌==◌, Bool, true, false, not, Some, refl, subst, ap, ◌∙◌, arith, eqb-true}
use Rattle.std.specs.Prelude.{Option, ◌&&◌, if◌then◌else◌}
use Rattle.lockword.specs.Cells.{Fields, fields_of, taken}
use Rattle.lockword.specs.declared.reply.Reply.{Reply}
use Rattle.lockword.specs.declared.reply.Reply.TheVariants.{OK, EPERM, EBUSY, EINVAL, EDEADLK, ENOTRECOVERABLE, XRACED}
use Rattle.stepprograms.specs.declared.access.Answer.{Answer}
use Rattle.stepprograms.specs.declared.access.Answer.TheVariants.{Value, Exchanged, Changed, Again, Woken, Count, Trimmed}
use Rattle.posixmutex.specs.declared.point.Operation.{Operation}
use Rattle.posixmutex.specs.declared.point.Operation.TheVariants as operation
use Rattle.posixmutex.specs.Objects.{Permits, Run, object_of, owner_of, freed, declared_consistent}
use Rattle.posixmutex.proofs.Owners.{owner_of-some}
use Rattle.mutex.specs.declared.lock.LockRow.TheVariants as lock
use Rattle.mutex.specs.declared.try_lock.TryLockRow.TheVariants as try
use Rattle.mutex.specs.declared.unlock.UnlockRow.{UnlockRow}
use Rattle.mutex.specs.declared.unlock.UnlockRow.TheVariants as unlock
use Rattle.mutex.specs.declared.consistent.ConsistentRow.{ConsistentRow}
use Rattle.mutex.specs.declared.consistent.ConsistentRow.TheVariants as consistent
use Rattle.mutex.specs.declared.row.Row.{Row}
use Rattle.mutex.specs.declared.row.Row.TheVariants.{Lock, TryLock, Unlock, Consistent, Ended}
use Rattle.mutex.specs.declared.row.Led.{Led}
use Rattle.mutex.specs.Rows.{Knows, goes, decides, ends, acquired}
use Rattle.mutex.specs.Lock.{lock_sees}
use Rattle.mutex.specs.TryLock.{try_sees}
use Rattle.mutex.specs.Unlock.{unlock_sees}
use Rattle.mutex.specs.Consistent.{consistent_sees}
use Rattle.mutex.specs.Programs.{row_operation, point_of, resume_of}
use Rattle.mutex.specs.Laws.{points, met, IsPermitted, PermitsAt, PointsArePermitted}
use Rattle.mutex.proofs.Rights.{Looks, lock_looks, try_looks, unlock_looks, consistent_looks, takes, locks}

-- a decision on a cell has a reply that the object permits for it
looked : (t : ℕ) (op : Operation) (l : Led) (c : Fields) (x : Reply) → Looks t 0 op l c → l.point ≡ Some x → IsPermitted c t op x
looked t op l c x s e =
    let r : Run (object_of c) (points (point_of t 0 op (Some x))) (object_of c) = subst (λ (z : Option Reply). Run (object_of c) (points (point_of t 0 op z)) (object_of c)) e s.runs in
    (r.0, r.1)

-- a reply that is recorded is the one
told : (x y : Reply) → Some y ≡ Some x → y ≡ x
told x y e = cc

-- each row, each answer
at : (t : ℕ) (r : Row) (a : Answer) (x : Reply) → 1 ≤ t → Knows r → (resume_of t r a).point ≡ Some x → PermitsAt (met r a) t (row_operation r) x
at t (Lock lock.Load) (Value w) x pos known e = looked t operation.Lock _ (fields_of w) x (lock_looks t 0 (fields_of w) pos (omega arith)) e
at t (Lock lock.Load) a x pos known e = tt
at t (Lock (lock.Take v)) Exchanged x pos known e = (object_of (taken v t), subst (λ (y : Reply). Permits (object_of v) t operation.Lock y (object_of (taken v t))) (told x (acquired v) e) (locks t v pos known.0 known.1))
at t (Lock (lock.Take v)) (Changed w) x pos known e = looked t operation.Lock _ (fields_of w) x (lock_looks t 0 (fields_of w) pos (omega arith)) e
at t (Lock (lock.Take v)) a x pos known e = tt
at t (Lock (lock.SetWaiters v)) (Changed w) x pos known e = looked t operation.Lock _ (fields_of w) x (lock_looks t 0 (fields_of w) pos (omega arith)) e
at t (Lock (lock.SetWaiters v)) a x pos known e = tt
at t (Lock (lock.Sleep v)) a x pos known e = tt
at t (Lock lock.WakeAll) a x pos known e = tt
at t (TryLock try.Load) (Value w) x pos known e = looked t operation.TryLock _ (fields_of w) x (try_looks t 0 0 (fields_of w) (omega arith)) e
at t (TryLock try.Load) a x pos known e = tt
at t (TryLock (try.Take v k)) Exchanged x pos known e = (object_of (taken v t), subst (λ (y : Reply). Permits (object_of v) t operation.TryLock y (object_of (taken v t))) (told x (acquired v) e) (takes t v pos known.0 known.1))
at t (TryLock (try.Take v k)) (Changed w) x pos known e = let few = known.2 in looked t operation.TryLock _ (fields_of w) x (try_looks t 0 (k + 1) (fields_of w) (omega arith)) e
at t (TryLock (try.Take v k)) a x pos known e = tt
at t (Unlock unlock.Load) (Value w) x pos known e = looked t operation.Unlock _ (fields_of w) x (unlock_looks t 0 (fields_of w) pos) e
at t (Unlock unlock.Load) a x pos known e = tt
at t (Unlock (unlock.Release d)) a x pos known e = tt
at t (Unlock (unlock.Wake d)) a x pos known e = tt
at t (Unlock unlock.Trim) a x pos known e = tt
at t (Consistent consistent.Load) (Value w) x pos known e = looked t operation.Consistent _ (fields_of w) x (consistent_looks t 0 (fields_of w) pos) e
at t (Consistent consistent.Load) a x pos known e = tt
at t (Consistent consistent.Declare) a x pos known e = tt
at t (Ended y) a x pos known e = tt

-- where a lock goes on, and a trylock, it is neither an unlock nor a declaration
abbrev IsElsewhere : Row → Type 0
IsElsewhere (Unlock r) = ⊥
IsElsewhere (Consistent r) = ⊥
IsElsewhere r = Unit {0}

elsewhere : (r z : Row) → IsElsewhere r → r ≡ z → IsElsewhere z
elsewhere r z h e = subst IsElsewhere e h

try_elsewhere : (k : ℕ) (c : Fields) → IsElsewhere (try_sees k c).row
try_elsewhere k c = go c.unusable (not (c.owner == 0)) (k == 4)
  where
    go : (u o f : Bool) → IsElsewhere (if u then ends ENOTRECOVERABLE else if o then ends EBUSY else if f then ends XRACED else goes (TryLock (try.Take c k))).row
    go true o f = tt
    go false true f = tt
    go false false true = tt
    go false false false = tt

lock_elsewhere : (t : ℕ) (c : Fields) → IsElsewhere (lock_sees t c).row
lock_elsewhere t c = go c.unusable (c.owner == t) (c.owner == 0) c.waiters
  where
    loss : (w : Bool) → IsElsewhere (if w then Lock lock.WakeAll else Ended ENOTRECOVERABLE)
    loss true = tt
    loss false = tt

    go : (u m f w : Bool) → IsElsewhere (if u then decides (if w then Lock lock.WakeAll else Ended ENOTRECOVERABLE) ENOTRECOVERABLE else if m then ends EDEADLK else if f then goes (Lock (lock.Take c)) else if w then goes (Lock (lock.Sleep c)) else goes (Lock (lock.SetWaiters c))).row
    go true m f w = loss w
    go false true f w = tt
    go false false true w = tt
    go false false false true = tt
    go false false false false = tt

-- wherever a call stands that is neither, no answer leads to either
stays_elsewhere : (t : ℕ) (r : Row) (a : Answer) → IsElsewhere r → IsElsewhere (resume_of t r a).row
stays_elsewhere t (Lock lock.Load) (Value w) h = lock_elsewhere t (fields_of w)
stays_elsewhere t (Lock lock.Load) a h = tt
stays_elsewhere t (Lock (lock.Take v)) Exchanged h = tt
stays_elsewhere t (Lock (lock.Take v)) (Changed w) h = lock_elsewhere t (fields_of w)
stays_elsewhere t (Lock (lock.Take v)) a h = tt
stays_elsewhere t (Lock (lock.SetWaiters v)) Exchanged h = tt
stays_elsewhere t (Lock (lock.SetWaiters v)) (Changed w) h = lock_elsewhere t (fields_of w)
stays_elsewhere t (Lock (lock.SetWaiters v)) a h = tt
stays_elsewhere t (Lock (lock.Sleep v)) Again h = tt
stays_elsewhere t (Lock (lock.Sleep v)) Woken h = tt
stays_elsewhere t (Lock (lock.Sleep v)) a h = tt
stays_elsewhere t (Lock lock.WakeAll) (Count n) h = tt
stays_elsewhere t (Lock lock.WakeAll) a h = tt
stays_elsewhere t (TryLock try.Load) (Value w) h = try_elsewhere 0 (fields_of w)
stays_elsewhere t (TryLock try.Load) a h = tt
stays_elsewhere t (TryLock (try.Take v k)) Exchanged h = tt
stays_elsewhere t (TryLock (try.Take v k)) (Changed w) h = try_elsewhere (k + 1) (fields_of w)
stays_elsewhere t (TryLock (try.Take v k)) a h = tt
stays_elsewhere t (Unlock r) a h = absurd h
stays_elsewhere t (Consistent r) a h = absurd h
stays_elsewhere t (Ended x) a h = tt

-- a call comes to its release only from a cell that it owns
loads : (t : ℕ) (c : Fields) (d : Bool) → 1 ≤ t → (unlock_sees t c).row ≡ Unlock (unlock.Release d) → IsPermitted c t operation.Unlock OK × (c.died ≡ d)
loads t c d pos = go (c.owner == t) refl
  where
    go : (b : Bool) → (c.owner == t) ≡ b → (if b then goes (Unlock (unlock.Release c.died)) else ends EPERM).row ≡ Unlock (unlock.Release d) → IsPermitted c t operation.Unlock OK × (c.died ≡ d)
    go true own e = ((freed (object_of c), (ap owner_of (eqb-true c.owner t own) ∙ owner_of-some t pos, refl)), cc)
    go false own e = absurd cc

-- after a release there is no release
released : (d w e : Bool) → (if w then Unlock (unlock.Wake d) else Ended OK) ≡ Unlock (unlock.Release e) → ⊥
released d true e is = cc
released d false e is = cc

-- no unlock comes to a declaration, and no declaration to an unlock
unlock_row : (d w : Bool) (r : ConsistentRow) → (if w then Unlock (unlock.Wake d) else Ended OK) ≡ Consistent r → ⊥
unlock_row d true r is = cc
unlock_row d false r is = cc

-- after a wake there is neither
woken_release : (b d : Bool) → (if b then Unlock unlock.Trim else Ended OK) ≡ Unlock (unlock.Release d) → ⊥
woken_release true d is = cc
woken_release false d is = cc

woken_declare : (b : Bool) → (if b then Unlock unlock.Trim else Ended OK) ≡ Consistent consistent.Declare → ⊥
woken_declare true is = cc
woken_declare false is = cc

unlock_sight : (t : ℕ) (c : Fields) (r : ConsistentRow) → (unlock_sees t c).row ≡ Consistent r → ⊥
unlock_sight t c r = go (c.owner == t)
  where
    go : (b : Bool) → (if b then goes (Unlock (unlock.Release c.died)) else ends EPERM).row ≡ Consistent r → ⊥
    go true e = cc
    go false e = cc

consistent_sight : (t : ℕ) (c : Fields) (r : UnlockRow) → (consistent_sees t c).row ≡ Unlock r → ⊥
consistent_sight t c r = go (c.owner == t) c.died
  where
    go : (b d : Bool) → (if not b then ends EPERM else if d then goes (Consistent consistent.Declare) else ends EINVAL).row ≡ Unlock r → ⊥
    go false d e = cc
    go true true e = cc
    go true false e = cc

-- a call comes to its declaration only from an inconsistent cell that it owns
owns : (t : ℕ) (c : Fields) → 1 ≤ t → (consistent_sees t c).row ≡ Consistent consistent.Declare → IsPermitted c t operation.Consistent OK
owns t c pos = go (c.owner == t) refl c.died refl
  where
    go : (b : Bool) → (c.owner == t) ≡ b → (d : Bool) → c.died ≡ d → (if not b then ends EPERM else if d then goes (Consistent consistent.Declare) else ends EINVAL).row ≡ Consistent consistent.Declare → IsPermitted c t operation.Consistent OK
    go false other d ed e = absurd cc
    go true own true ed e = (declared_consistent (object_of c), (ap owner_of (eqb-true c.owner t own) ∙ owner_of-some t pos, ed, refl))
    go true own false ed e = absurd cc

-- each row, each answer that leads to a release
release : (t : ℕ) (r : Row) (a : Answer) (d : Bool) → 1 ≤ t → (resume_of t r a).row ≡ Unlock (unlock.Release d) → (c : Fields) × (met r a ≡ Some c) × IsPermitted c t operation.Unlock OK × (c.died ≡ d)
release t (Lock r) a d pos e = absurd (elsewhere _ (Unlock (unlock.Release d)) (stays_elsewhere t (Lock r) a tt) e)
release t (TryLock r) a d pos e = absurd (elsewhere _ (Unlock (unlock.Release d)) (stays_elsewhere t (TryLock r) a tt) e)
release t (Unlock unlock.Load) (Value w) d pos e = let l = loads t (fields_of w) d pos e in (fields_of w, refl, l.0, l.1)
release t (Unlock unlock.Load) a d pos e = absurd cc
release t (Unlock (unlock.Release f)) (Value w) d pos e = absurd (released f (fields_of w).waiters d e)
release t (Unlock (unlock.Release f)) a d pos e = absurd cc
release t (Unlock (unlock.Wake all)) (Count k) d pos e = absurd (woken_release (not all && (k == 0)) d e)
release t (Unlock (unlock.Wake all)) a d pos e = absurd cc
release t (Unlock unlock.Trim) (Trimmed b) d pos e = absurd cc
release t (Unlock unlock.Trim) a d pos e = absurd cc
release t (Consistent consistent.Load) (Value w) d pos e = absurd (consistent_sight t (fields_of w) (unlock.Release d) e)
release t (Consistent consistent.Load) a d pos e = absurd cc
release t (Consistent consistent.Declare) (Value w) d pos e = absurd cc
release t (Consistent consistent.Declare) a d pos e = absurd cc
release t (Ended x) a d pos e = absurd cc

-- and to a declaration
declaration : (t : ℕ) (r : Row) (a : Answer) → 1 ≤ t → (resume_of t r a).row ≡ Consistent consistent.Declare → (c : Fields) × (met r a ≡ Some c) × IsPermitted c t operation.Consistent OK
declaration t (Lock r) a pos e = absurd (elsewhere _ (Consistent consistent.Declare) (stays_elsewhere t (Lock r) a tt) e)
declaration t (TryLock r) a pos e = absurd (elsewhere _ (Consistent consistent.Declare) (stays_elsewhere t (TryLock r) a tt) e)
declaration t (Unlock unlock.Load) (Value w) pos e = absurd (unlock_sight t (fields_of w) consistent.Declare e)
declaration t (Unlock unlock.Load) a pos e = absurd cc
declaration t (Unlock (unlock.Release f)) (Value w) pos e = absurd (unlock_row f (fields_of w).waiters consistent.Declare e)
declaration t (Unlock (unlock.Release f)) a pos e = absurd cc
declaration t (Unlock (unlock.Wake all)) (Count k) pos e = absurd (woken_declare (not all && (k == 0)) e)
declaration t (Unlock (unlock.Wake all)) a pos e = absurd cc
declaration t (Unlock unlock.Trim) (Trimmed b) pos e = absurd cc
declaration t (Unlock unlock.Trim) a pos e = absurd cc
declaration t (Consistent consistent.Load) (Value w) pos e = (fields_of w, refl, owns t (fields_of w) pos e)
declaration t (Consistent consistent.Load) a pos e = absurd cc
declaration t (Consistent consistent.Declare) (Value w) pos e = absurd cc
declaration t (Consistent consistent.Declare) a pos e = absurd cc
declaration t (Ended x) a pos e = absurd cc

-- all together
pub permitted : PointsArePermitted
permitted = record { at = at; release = release; declaration = declaration }
