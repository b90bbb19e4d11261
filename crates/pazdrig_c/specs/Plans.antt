-- A call where nobody is in the way, whole: its accesses, one after the other, and what a plan says of them.
--
-- *A plan.* A call where nobody is in the way, whole: some stores, one access at the cell, the other stores. `asked`
-- and `run` are what a program asks, and what is left of it, where it is answered so and so; `changes_in` leaves the
-- loads out. `loads_first` is the order in which C makes it: all loads, and then the changes. The laws `locks_by_plan`,
-- `unlocks_by_plan`; and `loads_may_come_first` of `storebuffers`, whatever others do in between.
use Rattle.std.specs.Prelude.{ℕ, ◌≡◌, ◌≢◌, ◌==◌, ◌≤◌, ◌&&◌, Bool, true, false, not, nat_le, List, [], ◌∷◌, ◌++◌, take, drop}
use Rattle.lockword.specs.Threads.{most_threads}
use Rattle.lockword.specs.Cells.{Fields, word_of, fields_of, taken}
use Rattle.lockword.specs.declared.reply.Reply.TheVariants.{OK}
use Rattle.stepprograms.specs.declared.access.Access.{Access}
use Rattle.stepprograms.specs.declared.access.Access.TheVariants as access
use Rattle.stepprograms.specs.declared.access.Answer.{Answer}
use Rattle.stepprograms.specs.declared.access.Answer.TheVariants.{Value, Stored, Exchanged, Count, Trimmed}
use Rattle.posixmutex.specs.declared.point.Operation.TheVariants as operation
use Rattle.memorymap.specs.Chains.{previous_place}
use Rattle.robustlist.specs.Words.{after}
use Rattle.mutex.specs.declared.call.Call.{Call}
use Rattle.mutex.specs.declared.call.Call.TheVariants as call
use Rattle.mutex.specs.declared.row.Row.{Row}
use Rattle.mutex.specs.declared.row.Row.TheVariants.{Lock, TryLock, Unlock}
use Rattle.mutex.specs.declared.lock.LockRow.TheVariants as lock
use Rattle.mutex.specs.declared.try_lock.TryLockRow.TheVariants as try
use Rattle.mutex.specs.declared.unlock.UnlockRow.TheVariants as release
use Rattle.mutex.specs.declared.phase.Phase.TheVariants.{AtCell, Ended}
use Rattle.mutex.specs.Rows.{acquired}
use Rattle.mutex.specs.Standings.{Whole}
use Rattle.mutex.specs.Whole.{whole_at, begun_at, whole_access, whole_led, whole_moved, pending_place}
use Rattle.pazdrig_c.specs.declared.structs.PzPlan.{PzPlan}

-- ---- a call that is answered so and so

-- what is left of it
abbrev pub run : Whole → List Answer → Whole
run p [] = p
run p (a ∷ rest) = run (whole_moved p (whole_led p a)) rest

-- its accesses that are answered so
abbrev pub asked : Whole → List Answer → List Access
asked p [] = []
asked p (a ∷ rest) = whole_access p ∷ asked (whole_moved p (whole_led p a)) rest

-- ---- loads and changes

-- accesses but loads
abbrev pub changes_in : List Access → List Access
changes_in [] = []
changes_in (access.Load at ∷ rest) = changes_in rest
changes_in (x ∷ rest) = x ∷ changes_in rest

abbrev pub loads_in : List Access → List Access
loads_in [] = []
loads_in (access.Load at ∷ rest) = access.Load at ∷ loads_in rest
loads_in (x ∷ rest) = loads_in rest

-- as whoever makes a call by its plan makes them: all that it loads before all that it changes
abbrev pub loads_first : List Access → List Access
loads_first plan = loads_in plan ++ changes_in plan

-- what the loads among these accesses find, one after the other, on such words, which nobody else changes
abbrev pub loads_find : (ℕ → ℕ) → List Access → List ℕ
loads_find words [] = []
loads_find words (access.Load at ∷ rest) = words at ∷ loads_find words rest
loads_find words (x ∷ rest) = loads_find (after x words) rest

-- each finds the same where all come first
abbrev pub LoadAlike : List Access → Type 0
LoadAlike plan = (words : ℕ → ℕ) → loads_find words (loads_first plan) ≡ loads_find words plan

-- ---- the lock of a free mutex, and the trylock of one

-- where the list is empty there is no entry that was first
abbrev pub tail_answers : Bool → List Answer
tail_answers true = Stored ∷ Stored ∷ []
tail_answers false = Stored ∷ Stored ∷ Stored ∷ []

abbrev pub tail_plan : Bool → ℕ → ℕ → ℕ → List Access
tail_plan true h e f = access.Store h e ∷ access.Store (pending_place h) 0 ∷ []
tail_plan false h e f = access.Store (previous_place f) e ∷ access.Store h e ∷ access.Store (pending_place h) 0 ∷ []

-- the cell is w, and f is first in the list
abbrev pub lock_answers : ℕ → ℕ → Bool → List Answer
lock_answers w f b = Stored ∷ Value w ∷ Exchanged ∷ Value f ∷ Stored ∷ Stored ∷ tail_answers b

-- thread t announces the entry e, takes the cell at c, and puts the entry in front of its list
abbrev pub lock_plan : ℕ → ℕ → ℕ → ℕ → ℕ → ℕ → Bool → List Access
lock_plan t h e c w f b =
    access.Store (pending_place h) e ∷ access.Load c ∷ access.Exchange c w (word_of (taken (fields_of w) t))
    ∷ access.Load h ∷ access.Store e f ∷ access.Store (previous_place e) h ∷ tail_plan b h e f

-- where a lock, or a trylock, makes the exchange that takes the cell that it saw
abbrev pub take_row : Call → Fields → Row
take_row (call.TryLock m) s = TryLock (try.Take s 0)
take_row k s = Lock (lock.Take s)

abbrev pub IsTaker : Call → Type 0
IsTaker (call.Lock m) = Unit {0}
IsTaker (call.TryLock m) = Unit {0}
IsTaker k = ⊥

-- it makes just these accesses, and returns the reply of whoever takes such a cell; the exchange is made by the row
-- that takes, so a call whose exchange fails goes on from there; and its loads may come first, where the cell is no
-- word of the thread's head
pub record LockByPlan (k : Call) (t h e c w f : ℕ) : Type 0 where
  pub asks : asked (begun_at t h e c k) (lock_answers w f (f == h)) ≡ lock_plan t h e c w f (f == h)
  pub returns : (run (begun_at t h e c k) (lock_answers w f (f == h))).phase ≡ Ended (acquired (fields_of w))
  pub takes : (run (begun_at t h e c k) (Stored ∷ Value w ∷ [])).phase ≡ AtCell (take_row k (fields_of w))
  pub loads : c ≢ h → c ≢ pending_place h → LoadAlike (lock_plan t h e c w f (f == h))

-- whether a thread finds a cell that it may take
abbrev pub is_free : Fields → Bool
is_free s = (s.owner == 0) && not s.unusable

abbrev pub LocksByPlan : Type 0
LocksByPlan = (k : Call) (t h e c w f : ℕ) → IsTaker k → 1 ≤ t → is_free (fields_of w) ≡ true → LockByPlan k t h e c w f

-- ---- the unlock of a consistent mutex by its owner

abbrev pub unlock_begun : ℕ → ℕ → ℕ → ℕ → Whole
unlock_begun t h e c = begun_at t h e c (call.Unlock 0)

-- after the last entry there is none whose previous word is changed
abbrev pub behind_answers : Bool → List Answer
behind_answers true = []
behind_answers false = Stored ∷ []

abbrev pub behind_plan : Bool → ℕ → ℕ → List Access
behind_plan true n p = []
behind_plan false n p = access.Store (previous_place n) p ∷ []

-- up to the release: the cell is w, and n and p are the next and the previous entry
abbrev pub unlink_answers : ℕ → ℕ → ℕ → Bool → List Answer
unlink_answers w n p b = Value w ∷ Stored ∷ Value n ∷ Value p ∷ Stored ∷ behind_answers b

abbrev pub unlink_plan : ℕ → ℕ → ℕ → ℕ → ℕ → Bool → List Access
unlink_plan h e c n p b = access.Load c ∷ access.Store (pending_place h) e ∷ access.Load e
    ∷ access.Load (previous_place e) ∷ access.Store p n ∷ behind_plan b n p

-- thread t announces the entry e, takes it off its list, and releases the cell
abbrev pub unlock_plan : ℕ → ℕ → ℕ → ℕ → ℕ → ℕ → Bool → List Access
unlock_plan t h e c n p b = unlink_plan h e c n p b ++ access.FetchXor c t ∷ access.Store (pending_place h) 0 ∷ []

abbrev pub release_row : Row
release_row = Unlock (release.Release false)

-- the answers from the release on, which found the cell v: where WAITERS is set in it a wake woke nobody, and the trim
-- after that was declined
abbrev pub wake_answers : Bool → List Answer
wake_answers true = Count 0 ∷ Trimmed false ∷ Stored ∷ []
wake_answers false = Stored ∷ []

abbrev pub wake_plan : Bool → ℕ → ℕ → List Access
wake_plan true h c = access.Wake c 1 ∷ access.Trim c ∷ access.Store (pending_place h) 0 ∷ []
wake_plan false h c = access.Store (pending_place h) 0 ∷ []

abbrev pub release_answers : ℕ → List Answer
release_answers v = Value v ∷ wake_answers (fields_of v).waiters

abbrev pub release_plan : ℕ → ℕ → ℕ → ℕ → List Access
release_plan t h c v = access.FetchXor c t ∷ wake_plan (fields_of v).waiters h c

-- it makes just these accesses, is at the row that releases when it does, and returns OK; and its loads may come
-- first, where its entry is no word of the thread's head
pub record UnlockByPlan (t h e c w n p v : ℕ) : Type 0 where
  pub unlinks : asked (unlock_begun t h e c) (unlink_answers w n p (n == h)) ≡ unlink_plan h e c n p (n == h)
  pub stands : run (unlock_begun t h e c) (unlink_answers w n p (n == h))
      ≡ whole_at t operation.Unlock h e c (AtCell release_row)
  pub releases : asked (whole_at t operation.Unlock h e c (AtCell release_row)) (release_answers v)
      ≡ release_plan t h c v
  pub returns : (run (whole_at t operation.Unlock h e c (AtCell release_row)) (release_answers v)).phase ≡ Ended OK
  pub asks : (fields_of v).waiters ≡ false
      → asked (unlock_begun t h e c) (unlink_answers w n p (n == h) ++ release_answers v)
      ≡ unlock_plan t h e c n p (n == h)
  pub loads : e ≢ pending_place h → previous_place e ≢ pending_place h → LoadAlike (unlock_plan t h e c n p (n == h))

-- whether a thread finds a cell that it may release so
abbrev pub is_held : Fields → ℕ → Bool
is_held s t = (s.owner == t) && not s.died

-- whatever the release finds, whether somebody waits or not
abbrev pub UnlocksByPlan : Type 0
UnlocksByPlan = (t h e c w n p v : ℕ) → 1 ≤ t → is_held (fields_of w) t ≡ true → UnlockByPlan t h e c w n p v

-- ---- what a plan says

abbrev pub is_thread : ℕ → Bool
is_thread t = nat_le 1 t && nat_le t most_threads

abbrev pub stores_of : List ℕ → List ℕ → List Access
stores_of (at ∷ ats) (value ∷ values) = access.Store at value ∷ stores_of ats values
stores_of ats values = []

-- its stores, with the one other access between them
abbrev pub planned : PzPlan → Access → List Access
planned p x =
    stores_of (take p.before p.at) (take p.before p.value)
    ++ x ∷ stores_of (drop p.before (take p.stores p.at)) (drop p.before (take p.stores p.value))
