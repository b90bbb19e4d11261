-- What a call does while no other thread steps, and which calls answer for a mutex that nobody owns.
--
-- *Where nobody else steps.* What an access of a call does that runs alone: WAITERS stays, or nobody sleeps there and
-- nobody owns the cell; fewer accesses are left, or it falls asleep, which it does only on an owned cell with WAITERS;
-- who leaves a free cell with WAITERS answers for it.
use Rattle.std.specs.Prelude.{ℕ, ◌≡◌, ◌≢◌, ◌==◌, ◌-◌, ◌%◌, ◌^◌, ◌<◌, ◌⊎◌, Bool, true, false, List, [], if◌then◌else◌}
use Rattle.lockword.specs.Cells.{word_of, low_of, fields_of}
use Rattle.lockword.specs.declared.reply.Reply.TheVariants.{XRACED}
use Rattle.stepprograms.specs.declared.access.Access.{Access}
use Rattle.stepprograms.specs.declared.access.Access.TheVariants.{Wake}
use Rattle.stepprograms.specs.Accesses.{sleeps_at}
use Rattle.mutex.specs.declared.lock.LockRow.TheVariants as lock
use Rattle.mutex.specs.declared.try_lock.TryLockRow.TheVariants as try
use Rattle.mutex.specs.declared.unlock.UnlockRow.TheVariants as unlock
use Rattle.mutex.specs.declared.consistent.ConsistentRow.TheVariants as consistent
use Rattle.mutex.specs.declared.row.Row.{Row}
use Rattle.mutex.specs.declared.row.Row.TheVariants.{Lock, TryLock, Unlock, Consistent, Ended}
use Rattle.mutex.specs.declared.row.Led.{Led}

-- whoever is there takes the mutex, or wakes one that sleeps on it, unless it finds it owned: a lock, and an unlock
-- after its release
abbrev pub answers_for : Row → Bool
answers_for (Lock r) = true
answers_for (Unlock (unlock.Wake all)) = true
answers_for r = false

-- this many accesses a call that is there still makes, at most, where it meets the word w and nobody else steps
abbrev pub left : Row → ℕ → ℕ
left (Lock lock.Load) w = 3
left (Lock (lock.Take v)) w = if w == word_of v then 1 else 3
left (Lock (lock.SetWaiters v)) w = if w == word_of v then 2 else 3
left (Lock (lock.Sleep v)) w = if w % 2 ^ 32 == low_of v then 1 else 4
left (Lock lock.WakeAll) w = 1
left (TryLock try.Load) w = 6
left (TryLock (try.Take v k)) w = 5 - k
left (Unlock unlock.Load) w = 4
left (Unlock (unlock.Release d)) w = 3
left (Unlock (unlock.Wake a)) w = 2
left (Unlock unlock.Trim) w = 1
left (Consistent consistent.Load) w = 2
left (Consistent consistent.Declare) w = 1
left (Ended x) w = 0

-- a call of thread t that no other event divided meets the word that it saw last, which was no cell of its own where it
-- goes to sleep; so it is never raced
abbrev pub Steady : ℕ → Row → ℕ → Type 0
Steady t (Lock (lock.Take v)) w = w ≡ word_of v
Steady t (Lock (lock.SetWaiters v)) w = (w ≡ word_of v) × (v.owner ≢ t)
Steady t (Lock (lock.Sleep v)) w = (w ≡ word_of v) × (v.owner ≢ t)
Steady t (TryLock (try.Take v k)) w = (w ≡ word_of v) × (k ≡ 0)
Steady t (Ended x) w = x ≢ XRACED
Steady t r w = Unit {0}

abbrev pub is_wake : Access → Bool
is_wake (Wake at n) = true
is_wake a = false

-- where those of q sleep on the word w, WAITERS stays in it, or nobody sleeps there and nobody owns the cell
abbrev pub KeepsWaiters : ℕ → List ℕ → ℕ → Type 0
KeepsWaiters w q w' =
    (fields_of w).waiters ≡ true → ((fields_of w').waiters ≡ true) ⊎ ((q ≡ []) × ((fields_of w).owner ≡ 0))

-- one access of a call of thread t at row r, which meets the word w, on which those of q sleep, leaves the word w' and
-- leads to l
pub record Alone (t : ℕ) (r : Row) (a : Access) (l : Led) (w : ℕ) (q : List ℕ) (w' : ℕ) : Type 0 where
  pub waiters : KeepsWaiters w q w'
  -- it falls asleep only on a cell that is owned and has WAITERS
  pub sleeps : sleeps_at a w ≡ true → (0 < (fields_of w).owner) × ((fields_of w).waiters ≡ true)
  -- else fewer accesses are left
  pub fewer : sleeps_at a w ≡ false → left l.row w' < left r w
  -- who leaves a free cell that has WAITERS, and wakes nobody, answers for it; except for those who only looked at it
  pub answers : is_wake a ≡ false → (fields_of w').owner ≡ 0 → (fields_of w').waiters ≡ true
      → (answers_for l.row ≡ true) ⊎ ((answers_for r ≡ false) × (w' ≡ w))
  pub steady : sleeps_at a w ≡ false → Steady t r w → Steady t l.row w'
