-- WAITERS and trims.
use Rattle.std.proofs.Common.{◌≡◌, ℕ, ◌==◌, ◌&&◌, Bool, true, false, not, refl, sym, ap, subst, eqb-true}
use Rattle.std.specs.Prelude.{if◌then◌else◌}
use Rattle.lockword.specs.Cells.{fields_of}
use Rattle.lockword.specs.declared.reply.Reply.TheVariants.{OK, EPERM}
use Rattle.stepprograms.specs.declared.access.Access.{Access}
use Rattle.stepprograms.specs.declared.access.Access.TheVariants as access
use Rattle.stepprograms.specs.declared.access.Answer.{Answer}
use Rattle.stepprograms.specs.declared.access.Answer.TheVariants.{Value, Count, Trimmed}
use Rattle.posixmutex.specs.declared.point.Operation.TheVariants as operation
use Rattle.mutex.specs.declared.lock.LockRow.TheVariants as lock
use Rattle.mutex.specs.declared.try_lock.TryLockRow.TheVariants as try
use Rattle.mutex.specs.declared.unlock.UnlockRow.TheVariants as unlock
use Rattle.mutex.specs.declared.consistent.ConsistentRow.TheVariants as consistent
use Rattle.mutex.specs.declared.row.Row.{Row}
use Rattle.mutex.specs.declared.row.Row.TheVariants.{Lock, TryLock, Unlock, Consistent, Ended}
use Rattle.mutex.specs.Rows.{IsGoing, goes, ends}
use Rattle.mutex.specs.Programs.{row_access, resume_of, row_operation}
use Rattle.mutex.specs.Laws.{IsOf, WaitersAreKept, UnlocksTrim}
use Rattle.mutex.specs.declared.phase.Phase.{Phase}
use Rattle.mutex.specs.Whole.{whole_access, whole_moved, phase_led}
use Rattle.mutex.specs.WholeLaws.{WholeUnlocksTrim}
use Rattle.mutex.proofs.Steps.{minds}
use Rattle.mutex.proofs.Wholes.{goes_on}
use Rattle.lockword.specs.Threads.{most_threads}

pub kept : WaitersAreKept
kept t cell w q (Lock lock.Load) last going known expected other on = on
kept t cell w q (Lock (lock.Take v)) last going known expected other on = (minds t cell w (Lock (lock.Take v)) last going tt known expected).waiters on
kept t cell w q (Lock (lock.SetWaiters v)) last going known expected other on = (minds t cell w (Lock (lock.SetWaiters v)) last going tt known expected).waiters on
kept t cell w q (Lock (lock.Sleep v)) last going known expected other on = on
kept t cell w q (Lock lock.WakeAll) last going known expected other on = on
kept t cell w q (TryLock try.Load) last going known expected other on = on
kept t cell w q (TryLock (try.Take v k)) last going known expected other on = (minds t cell w (TryLock (try.Take v k)) last going tt known expected).waiters on
kept t cell w q (Unlock unlock.Load) last going known expected other on = on
kept t cell w q (Unlock (unlock.Release d)) last going known expected other on = (minds t cell w (Unlock (unlock.Release d)) last going tt known expected).waiters on
kept t cell w q (Unlock (unlock.Wake all)) last going known expected other on = on
kept t cell w q (Unlock unlock.Trim) last going known expected other on = absurd (other refl)
kept t cell w q (Consistent consistent.Load) last going known expected other on = on
kept t cell w q (Consistent consistent.Declare) last going known expected other on = (minds t cell w (Consistent consistent.Declare) last going tt known expected).waiters on
kept t cell w q (Ended x) last going known expected other on = absurd going

-- the access is a trim
abbrev Trims : Access → Type 0
Trims (access.Trim at) = Unit {0}
Trims a = ⊥

-- one row alone trims
at_trim : (t cell : ℕ) (r : Row) → Trims (row_access t cell r) → r ≡ Unlock unlock.Trim
at_trim t cell (Lock lock.Load) is = absurd is
at_trim t cell (Lock (lock.Take v)) is = absurd is
at_trim t cell (Lock (lock.SetWaiters v)) is = absurd is
at_trim t cell (Lock (lock.Sleep v)) is = absurd is
at_trim t cell (Lock lock.WakeAll) is = absurd is
at_trim t cell (TryLock try.Load) is = absurd is
at_trim t cell (TryLock (try.Take v k)) is = absurd is
at_trim t cell (Unlock unlock.Load) is = absurd is
at_trim t cell (Unlock (unlock.Release d)) is = absurd is
at_trim t cell (Unlock (unlock.Wake all)) is = absurd is
at_trim t cell (Unlock unlock.Trim) is = refl
at_trim t cell (Consistent consistent.Load) is = absurd is
at_trim t cell (Consistent consistent.Declare) is = absurd is
at_trim t cell (Ended x) is = absurd is

-- neither a load nor a release leads to a trim
unlock_looks : (b d : Bool) → (if b then goes (Unlock (unlock.Release d)) else ends EPERM).row ≡ Unlock unlock.Trim → ⊥
unlock_looks true d is = cc
unlock_looks false d is = cc

release_leads : (d w : Bool) → (if w then Unlock (unlock.Wake d) else Ended OK) ≡ Unlock unlock.Trim → ⊥
release_leads d true is = cc
release_leads d false is = cc

-- a wake does, of one thread that woke nobody
wake_leads : (t cell k : ℕ) (all : Bool) → (if not all && (k == 0) then Unlock unlock.Trim else Ended OK) ≡ Unlock unlock.Trim
    → (access.Wake cell (if all then most_threads else 1) ≡ access.Wake cell 1) × (Count k ≡ Count 0)
wake_leads t cell k true is = let e : Ended OK ≡ Unlock unlock.Trim = is in absurd cc
wake_leads t cell k false is = go (k == 0) refl is
  where
    go : (b : Bool) → (k == 0) ≡ b → (if not false && b then Unlock unlock.Trim else Ended OK) ≡ Unlock unlock.Trim → (access.Wake cell 1 ≡ access.Wake cell 1) × (Count k ≡ Count 0)
    go true none e = (refl, ap Count (eqb-true k 0 none))
    go false some e = let f : Ended OK ≡ Unlock unlock.Trim = e in absurd cc

comes : (t cell : ℕ) (r : Row) (a : Answer) → row_operation r ≡ operation.Unlock → IsGoing r → (resume_of t r a).row ≡ Unlock unlock.Trim → (row_access t cell r ≡ access.Wake cell 1) × (a ≡ Count 0)
comes t cell (Lock r) a of going e = absurd cc
comes t cell (TryLock r) a of going e = absurd cc
comes t cell (Consistent r) a of going e = absurd cc
comes t cell (Unlock unlock.Load) (Value w) of going e = absurd (unlock_looks ((fields_of w).owner == t) (fields_of w).died e)
comes t cell (Unlock unlock.Load) a of going e = absurd cc
comes t cell (Unlock (unlock.Release d)) (Value w) of going e = absurd (release_leads d (fields_of w).waiters e)
comes t cell (Unlock (unlock.Release d)) a of going e = absurd cc
comes t cell (Unlock (unlock.Wake all)) (Count k) of going e = wake_leads t cell k all e
comes t cell (Unlock (unlock.Wake all)) a of going e = absurd cc
comes t cell (Unlock unlock.Trim) (Trimmed b) of going e = absurd cc
comes t cell (Unlock unlock.Trim) a of going e = absurd cc
comes t cell (Ended x) a of going e = absurd going

-- such a wake leads there
leads : (t cell : ℕ) (r : Row) → row_operation r ≡ operation.Unlock → row_access t cell r ≡ access.Wake cell 1 → row_access t cell (resume_of t r (Count 0)).row ≡ access.Trim cell
leads t cell (Lock r) of is = absurd cc
leads t cell (TryLock r) of is = absurd cc
leads t cell (Consistent r) of is = absurd cc
leads t cell (Unlock unlock.Load) of is = absurd cc
leads t cell (Unlock (unlock.Release d)) of is = absurd cc
leads t cell (Unlock (unlock.Wake true)) of is = absurd cc
leads t cell (Unlock (unlock.Wake false)) of is = refl
leads t cell (Unlock unlock.Trim) of is = absurd cc
leads t cell (Ended x) of is = absurd cc

unlock_is : (r : Row) → IsOf (row_operation r) (Unlock unlock.Trim) → row_operation r ≡ operation.Unlock
unlock_is r is = sym is

pub trims : UnlocksTrim
trims t cell r a pos going known = (
  (λ asks.
      let there : (resume_of t r a).row ≡ Unlock unlock.Trim = at_trim t cell (resume_of t r a).row (subst Trims (sym asks) tt) in
      let of : row_operation r ≡ operation.Unlock = unlock_is r (subst (IsOf (row_operation r)) there (goes_on t r a pos known).1) in
      let was = comes t cell r a of going there in (of, was.0, was.1)),
  (λ was. subst (λ (x : Answer). row_access t cell (resume_of t r x).row ≡ access.Trim cell) (sym was.2) (leads t cell r was.0 was.1)),
)

pub whole_trims : WholeUnlocksTrim
whole_trims p is = subst (λ (f : Phase). whole_access (whole_moved p (phase_led p f (Count 0))) ≡ access.Trim p.cell) (sym is) refl
