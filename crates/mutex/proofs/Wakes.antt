-- Whom a call wakes.
use Rattle.std.proofs.Common.{◌≡◌, ℕ, ◌+◌, ◌==◌, ◌&&◌, Bool, true, false, not, Some, refl, sym, ap, ◌∙◌}
use Rattle.std.specs.Prelude.{◌%◌, ◌^◌, ◌||◌, ◌↔◌, length, take, if◌then◌else◌}
use Rattle.lockword.specs.Cells.{Fields, fields_of, word_of, low_of, taken, waiting}
use Rattle.lockword.specs.declared.reply.Reply.TheVariants.{OK, EPERM, EBUSY, EINVAL, EDEADLK, EOWNERDEAD, ENOTRECOVERABLE, XRACED}
use Rattle.stepprograms.specs.declared.access.Access.TheVariants as access
use Rattle.stepprograms.specs.declared.access.Answer.TheVariants.{Exchanged, Changed, Again, Woken}
use Rattle.posixmutex.specs.declared.object.Object.{Object}
use Rattle.posixmutex.specs.declared.point.Operation.{Operation}
use Rattle.posixmutex.specs.declared.point.Operation.TheVariants as operation
use Rattle.posixmutex.specs.Objects.{object_of, freed}
use Rattle.mutex.specs.declared.lock.LockRow.TheVariants as lock
use Rattle.mutex.specs.declared.try_lock.TryLockRow.TheVariants as try
use Rattle.mutex.specs.declared.unlock.UnlockRow.TheVariants as unlock
use Rattle.mutex.specs.declared.consistent.ConsistentRow.TheVariants as consistent
use Rattle.mutex.specs.declared.row.Row.TheVariants.{Lock, TryLock, Unlock, Consistent, Ended}
use Rattle.mutex.specs.declared.row.Led.{Led}
use Rattle.mutex.specs.Rows.{goes, decides, ends}
use Rattle.mutex.specs.Lock.{lock_sees}
use Rattle.mutex.specs.TryLock.{try_sees}
use Rattle.mutex.specs.Unlock.{unlock_sees}
use Rattle.mutex.specs.Consistent.{consistent_sees}
use Rattle.mutex.specs.Programs.{row_access, resume_of}
use Rattle.mutex.specs.Laws.{Sound}
use Rattle.mutex.specs.Wakes.{to_wake, Wakes, WakesAreRight}
use Rattle.mutex.proofs.Rights.{right}
use Rattle.lockword.specs.Threads.{most_threads}

-- the next access of a call that was led so is a wake exactly where it is to be one
abbrev Next : ℕ → ℕ → Operation → Led → Bool → Object → ℕ → ℕ → Type 0
Next t cell op l b o at n = (row_access t cell l.row ≡ access.Wake at n) ↔ ((at ≡ cell) × Wakes op l.point b o n)

-- a wake, of this many
wakes : (cell at n k : ℕ) (P : Type 0) → (n ≡ k → P) → (P → n ≡ k) → (access.Wake cell k ≡ access.Wake at n) ↔ ((at ≡ cell) × P)
wakes cell at n k P to from = (
  (λ is. let place : at ≡ cell = cc is in let count : n ≡ k = cc is in (place, to count)),
  (λ h. let place = h.0 in let count = from h.1 in cc (place, count)),
)

module _ (t cell at n : ℕ) (o : Object) (b : Bool) where
  trylock_looks : (k : ℕ) (c : Fields) → Next t cell operation.TryLock (try_sees k c) b o at n
  trylock_looks k c = go c.unusable (not (c.owner == 0)) (k == 4)
    where
      go : (u x f : Bool) → Next t cell operation.TryLock (if u then ends ENOTRECOVERABLE else if x then ends EBUSY else if f then ends XRACED else goes (TryLock (try.Take c k))) b o at n
      go true x f = (λ is. absurd (cc is), λ h. absurd h.1)
      go false true f = (λ is. absurd (cc is), λ h. absurd h.1)
      go false false true = (λ is. absurd (cc is), λ h. absurd h.1)
      go false false false = (λ is. absurd (cc is), λ h. absurd h.1)

  trylock_takes : (d : Bool) → Next t cell operation.TryLock (ends (if d then EOWNERDEAD else OK)) b o at n
  trylock_takes true = (λ is. absurd (cc is), λ h. absurd h.1)
  trylock_takes false = (λ is. absurd (cc is), λ h. absurd h.1)

  lock_takes : (d : Bool) → Next t cell operation.Lock (ends (if d then EOWNERDEAD else OK)) b o at n
  lock_takes true = (λ is. absurd (cc is), λ h. absurd h.1)
  lock_takes false = (λ is. absurd (cc is), λ h. absurd h.1)

  unlock_looks : (c : Fields) → Next t cell operation.Unlock (unlock_sees t c) b o at n
  unlock_looks c = go (c.owner == t)
    where
      go : (x : Bool) → Next t cell operation.Unlock (if x then goes (Unlock (unlock.Release c.died)) else ends EPERM) b o at n
      go true = (λ is. absurd (cc is), λ h. absurd h.1)
      go false = (λ is. absurd (cc is), λ h. absurd h.1)

  -- a wake that ends, or goes on to its trim
  woken : (x : Bool) → Next t cell operation.Unlock (goes (if x then Unlock unlock.Trim else Ended OK)) b o at n
  woken true = (λ is. absurd (cc is), λ h. absurd h.1)
  woken false = (λ is. absurd (cc is), λ h. absurd h.1)

  declaration_looks : (c : Fields) → Next t cell operation.Consistent (consistent_sees t c) b o at n
  declaration_looks c = go (not (c.owner == t)) c.died
    where
      go : (x d : Bool) → Next t cell operation.Consistent (if x then ends EPERM else if d then goes (Consistent consistent.Declare) else ends EINVAL) b o at n
      go true d = (λ is. absurd (cc is), λ h. absurd h.1)
      go false true = (λ is. absurd (cc is), λ h. absurd h.1)
      go false false = (λ is. absurd (cc is), λ h. absurd h.1)

module _ (t cell at n : ℕ) where
  -- a lock's look at a cell, which it leaves
  lock_looks : (c : Fields) → Next t cell operation.Lock (lock_sees t c) c.waiters (object_of c) at n
  lock_looks c = go c.unusable refl c.waiters (c.owner == t) (c.owner == 0)
    where
      go : (u : Bool) → c.unusable ≡ u → (w x f : Bool)
          → Next t cell operation.Lock (if u then decides (if w then Lock lock.WakeAll else Ended ENOTRECOVERABLE) ENOTRECOVERABLE else if x then ends EDEADLK else if f then goes (Lock (lock.Take c)) else if w then goes (Lock (lock.Sleep c)) else goes (Lock (lock.SetWaiters c))) w (object_of c) at n
      go true lost true x f =
          let all : to_wake (object_of c) ≡ most_threads = ap (λ (y : Bool). if y then most_threads else 1) lost in
          wakes cell at n most_threads _ (λ e. e ∙ sym all) (λ e. e ∙ all)
      go true lost false x f = (λ is. absurd (cc is), λ h. absurd h.1)
      go false usable w true f = (λ is. absurd (cc is), λ h. absurd h.1)
      go false usable w false true = (λ is. absurd (cc is), λ h. absurd h.1)
      go false usable true false false = (λ is. absurd (cc is), λ h. absurd h.1)
      go false usable false false false = (λ is. absurd (cc is), λ h. absurd h.1)

  -- an exchange
  lock_exchanges : (v : Fields) (w : ℕ) (w' : ℕ) (b : Bool) → Next t cell operation.Lock (resume_of t (Lock (lock.Take v)) (if b then Exchanged else Changed w)) (fields_of w).waiters (object_of (fields_of (if b then w' else w))) at n
  lock_exchanges v w w' true = lock_takes t cell at n (object_of (fields_of w')) (fields_of w).waiters v.died
  lock_exchanges v w w' false = lock_looks (fields_of w)

  lock_sets : (v : Fields) (w : ℕ) (w' : ℕ) (b : Bool) → Next t cell operation.Lock (resume_of t (Lock (lock.SetWaiters v)) (if b then Exchanged else Changed w)) (fields_of w).waiters (object_of (fields_of (if b then w' else w))) at n
  lock_sets v w w' true = (λ is. absurd (cc is), λ h. absurd h.1)
  lock_sets v w w' false = lock_looks (fields_of w)

  lock_wakes_up : (v : Fields) (c : Fields) (o : Object) (b : Bool) → Next t cell operation.Lock (resume_of t (Lock (lock.Sleep v)) (if b then Woken else Again)) c.waiters o at n
  lock_wakes_up v c o true = (λ is. absurd (cc is), λ h. absurd h.1)
  lock_wakes_up v c o false = (λ is. absurd (cc is), λ h. absurd h.1)

  trylock_exchanges : (v : Fields) (k w : ℕ) (o : Object) (b : Bool) → Next t cell operation.TryLock (resume_of t (TryLock (try.Take v k)) (if b then Exchanged else Changed w)) (fields_of w).waiters o at n
  trylock_exchanges v k w o true = trylock_takes t cell at n o (fields_of w).waiters v.died
  trylock_exchanges v k w o false = trylock_looks t cell at n o (fields_of w).waiters (k + 1) (fields_of w)

  -- a release: one where it leaves the mutex usable, and else everybody
  releases : (d : Bool) (o : Object) → o.unusable ≡ d → (b : Bool) → Next t cell operation.Unlock (decides (if b then Unlock (unlock.Wake d) else Ended OK) OK) b o at n
  releases true o lost true = let all : to_wake o ≡ most_threads = ap (λ (y : Bool). if y then most_threads else 1) lost in wakes cell at n most_threads _ (λ e. e ∙ sym all) (λ e. e ∙ all)
  releases false o usable true = let one : to_wake o ≡ 1 = ap (λ (y : Bool). if y then most_threads else 1) usable in wakes cell at n 1 _ (λ e. e ∙ sym one) (λ e. e ∙ one)
  releases d o is false = (λ is. absurd (cc is), λ h. absurd h.1)

-- whoever owns a mutex finds it usable
usable : (t : ℕ) (o : Object) → Sound o → o.owner ≡ Some t → o.unusable ≡ false
usable t o sound own = go o.unusable refl
  where
    go : (b : Bool) → o.unusable ≡ b → b ≡ false
    go true lost = let none = sound lost in absurd (cc (own, none))
    go false fine = refl

-- a release leaves the mutex unusable exactly where it was inconsistent
left : (o m : Object) (d : Bool) → o.unusable ≡ false → o.inconsistent ≡ d → m ≡ freed o → m.unusable ≡ d
left o m d fine is made = ap (λ (x : Object). x.unusable) made ∙ ap (λ (x : Bool). x || o.unusable) is ∙ ap (λ (x : Bool). d || x) fine ∙ same d
  where
    same : (x : Bool) → (x || false) ≡ x
    same true = refl
    same false = refl

pub woken_right : WakesAreRight
woken_right t cell w at n q (Lock lock.Load) pos last going known sound expected = lock_looks t cell at n (fields_of w)
woken_right t cell w at n q (Lock (lock.Take v)) pos last going known sound expected = lock_exchanges t cell at n v w (word_of (taken v t)) (w == word_of v)
woken_right t cell w at n q (Lock (lock.SetWaiters v)) pos last going known sound expected = lock_sets t cell at n v w (word_of (waiting v)) (w == word_of v)
woken_right t cell w at n q (Lock (lock.Sleep v)) pos last going known sound expected = lock_wakes_up t cell at n v (fields_of w) (object_of (fields_of w)) (w % 2 ^ 32 == low_of v)
woken_right t cell w at n q (Lock lock.WakeAll) pos last going known sound expected = (λ is. absurd (cc is), λ h. absurd h.1)
woken_right t cell w at n q (TryLock try.Load) pos last going known sound expected = trylock_looks t cell at n (object_of (fields_of w)) (fields_of w).waiters 0 (fields_of w)
woken_right t cell w at n q (TryLock (try.Take v k)) pos last going known sound expected = trylock_exchanges t cell at n v k w (object_of (fields_of (if w == word_of v then word_of (taken v t) else w))) (w == word_of v)
woken_right t cell w at n q (Unlock unlock.Load) pos last going known sound expected = unlock_looks t cell at n (object_of (fields_of w)) (fields_of w).waiters (fields_of w)
woken_right t cell w at n q (Unlock (unlock.Release d)) pos last going known sound expected =
    let step = (right t cell w q (Unlock (unlock.Release d)) pos last tt tt sound expected).runs in
    releases t cell at n d _ (ap (λ (x : Object). x.unusable) step.2 ∙ left (object_of (fields_of w)) step.0 d (usable t (object_of (fields_of w)) sound expected.0) expected.1 step.1.1) (fields_of w).waiters
woken_right t cell w at n q (Unlock (unlock.Wake all)) pos last going known sound expected = woken t cell at n (object_of (fields_of w)) (fields_of w).waiters (not all && (length (take (if all then most_threads else 1) q) == 0))
woken_right t cell w at n q (Unlock unlock.Trim) pos last going known sound expected = (λ is. absurd (cc is), λ h. absurd h.1)
woken_right t cell w at n q (Consistent consistent.Load) pos last going known sound expected = declaration_looks t cell at n (object_of (fields_of w)) (fields_of w).waiters (fields_of w)
woken_right t cell w at n q (Consistent consistent.Declare) pos last going known sound expected = (λ is. absurd (cc is), λ h. absurd h.1)
woken_right t cell w at n q (Ended x) pos last going known sound expected = absurd going
