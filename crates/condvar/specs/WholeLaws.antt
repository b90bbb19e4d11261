-- Which points a whole call has, whatever it is answered.
--
-- *A right whole call on a condition variable.* Whatever it is answered: where it returned, and not for a fault, its
-- points are exactly one of its operation with its reply; or, of a wait that wasn't refused, an unlock with OK and then
-- a lock with its reply. Each but that of a lock has a reply that the object permits for the cell that the call's first
-- load met. Where a wait takes its mutex again it is a whole call of lock, by its thread, on its mutex, as the laws of
-- `mutex` take it.
use Rattle.std.specs.Prelude.{ℕ, ◌≡◌, ◌≢◌, ◌≤◌, ◌↔◌, ◌⊎◌, Bool, Option, Some, None, List, [], ◌∷◌, ◌++◌, All}
use Rattle.lockword.specs.Cells.{Fields, fields_of}
use Rattle.lockword.specs.declared.reply.Reply.{Reply}
use Rattle.lockword.specs.declared.reply.Reply.TheVariants.{OK, EPERM, EFAULT, XSTATE}
use Rattle.stepprograms.specs.declared.access.Access.TheVariants as access
use Rattle.stepprograms.specs.declared.access.Answer.{Answer}
use Rattle.stepprograms.specs.declared.access.Answer.TheVariants.{Value}
use Rattle.posixmutex.specs.declared.point.Operation.{Operation}
use Rattle.posixmutex.specs.declared.point.Operation.TheVariants as operation
use Rattle.posixmutex.specs.declared.point.Point.{Point}
use Rattle.memorymap.specs.Layouts.{Layout', cell_place, head_place, entry_place, address_in}
use Rattle.mutex.specs.Laws.{points, IsPermitted}
use Rattle.mutex.specs.Standings.{Whole}
use Rattle.mutex.specs.WholeLaws as mutex
use Rattle.mutex.specs.WholeLaws.{IsWhole}
use Rattle.condvar.specs.declared.call.CondCall.{CondCall}
use Rattle.condvar.specs.declared.row.CondRow.{CondRow}
use Rattle.condvar.specs.declared.phase.CondPhase.{CondPhase}
use Rattle.condvar.specs.declared.phase.CondPhase.TheVariants.{AtWords, Locking, Ended}
use Rattle.condvar.specs.Calls.{acts_as}
use Rattle.condvar.specs.Rows.{IsGoing}
use Rattle.condvar.specs.Programs.{mutex_of}
use Rattle.condvar.specs.Standings.{CondWhole}
use Rattle.condvar.specs.Wakes.{tells_waiters, WakesBehind}
use Rattle.condvar.specs.Whole.{begins, cond_access, cond_led, cond_moved}

-- where some answers lead a call, whatever they are
abbrev pub cond_reached : CondWhole → List Answer → CondWhole
cond_reached p [] = p
cond_reached p (a ∷ answers) = cond_reached (cond_moved p (cond_led p a)) answers

-- the points that it makes with them, after those that it made so far
abbrev pub points_after : CondWhole → List Point → List Answer → List Point
points_after p so_far [] = so_far
points_after p so_far (a ∷ answers) =
    points_after (cond_moved p (cond_led p a)) (so_far ++ points (cond_led p a).point) answers

-- a point of thread t at a mutex's cell
abbrev pub point : ℕ → ℕ → Operation → Reply → Point
point t cell op x = record { thread = t; at = cell; operation = op; reply = x }

-- a wait is refused with these alone
abbrev pub RefusesWait : Reply → Type 0
RefusesWait EPERM = Unit {0}
RefusesWait XSTATE = Unit {0}
RefusesWait x = ⊥

-- the points of a call that returned a reply: a wait was refused, or unlocked the mutex and later locked it again, with
-- that reply; a signal and a broadcast have one point, with that reply
abbrev pub IsDecidedBy : ℕ → ℕ → Operation → Reply → List Point → Type 0
IsDecidedBy t cell operation.Wait x ps = (RefusesWait x × (ps ≡ point t cell operation.Wait x ∷ []))
    ⊎ (ps ≡ point t cell operation.Unlock OK ∷ point t cell operation.Lock x ∷ [])
IsDecidedBy t cell op x ps = ps ≡ point t cell op x ∷ []

-- the lock that ends a wait: the mutex's own lock of that thread, on that mutex and that list
pub record IsLockOf (l : Layout') (t : ℕ) (c : CondCall) (w : Whole) : Type 0 where
  pub whole : IsWhole w
  pub thread : w.thread ≡ t
  pub operation : w.operation ≡ operation.Lock
  pub head : w.head ≡ address_in l t (head_place t)
  pub entry : w.entry ≡ address_in l t (entry_place l (mutex_of l c))
  pub cell : w.cell ≡ address_in l t (cell_place l (mutex_of l c))

-- the cell that a call's first load met, as its first answer tells
abbrev pub first_met : List Answer → Option Fields
first_met (Value w ∷ answers) = Some (fields_of w)
first_met answers = None

-- the object permits a point of thread t for that cell; what it permits the lock that ends a wait is recorded by the
-- cells that the lock meets, as the mutex's laws say
abbrev pub IsPermittedFirst : ℕ → Option Fields → Point → Type 0
IsPermittedFirst t (Some c) q = (q.operation ≡ operation.Lock) ⊎ IsPermitted c t q.operation q.reply
IsPermittedFirst t None q = ⊥

-- after this answer its next access is a wake of n sleepers of the word at this address
abbrev pub WakesNext : CondWhole → Answer → ℕ → ℕ → Type 0
WakesNext p a at n = cond_access (cond_moved p (cond_led p a)) ≡ access.Wake at n

-- after this point it is to wake n sleepers of the word at this address
abbrev pub IsToWake : CondWhole → Option Point → Bool → ℕ → ℕ → Type 0
IsToWake p None b at n = ⊥
IsToWake p (Some q) b at n = WakesBehind p.cell p.counter q.operation q.reply b at n

-- it is at its mutex's cell or its condition variable's counter
abbrev pub IsAtWords : CondPhase → Type 0
IsAtWords (AtWords r) = Unit {0}
IsAtWords (Locking w) = mutex.IsAtCell w.phase
IsAtWords f = ⊥

-- how many sleepers a whole call wakes, and where: as `Wakes` says of its rows
pub record WholeCallsWake : Type 0 where
  -- after an access at the cell or the counter, whatever that is answered, the next one is a wake exactly where its
  -- point asks for one, of this many, and of those on that word
  pub at_the_words : (p : CondWhole) (r : CondRow) (a : Answer) (at n : ℕ) → p.phase ≡ AtWords r → IsGoing r
      → WakesNext p a at n ↔ IsToWake p (cond_led p a).point (tells_waiters a) at n
  -- in the lock that ends a wait exactly where the lock's next access is one, of which all holds that the mutex's laws
  -- say
  pub in_its_lock : (p : CondWhole) (w : Whole) (a : Answer) (at n : ℕ) → p.phase ≡ Locking w → WakesNext p a at n
      ↔ mutex.WakesNext w a at n
  -- a call doesn't begin by a wake, and whatever it is answered, none follows an access of its thread's list
  pub first : (l : Layout') (t : ℕ) (c : CondCall) (at n : ℕ) → cond_access (begins l t c) ≢ access.Wake at n
  pub at_the_list : (l : Layout') (t : ℕ) (c : CondCall) (answers : List Answer) (a : Answer) (at n : ℕ)
      → ¬ IsAtWords (cond_reached (begins l t c) answers).phase
      → ¬ WakesNext (cond_reached (begins l t c) answers) a at n

-- whatever a call is answered
pub record WholeCallsAreRight : Type 0 where
  -- one that returned, and not for a fault, has exactly its points, each at its mutex's cell
  pub points : (l : Layout') (t : ℕ) (c : CondCall) (answers : List Answer) (x : Reply) → 1 ≤ t
      → (cond_reached (begins l t c) answers).phase ≡ Ended x → x ≢ EFAULT
      → IsDecidedBy t (address_in l t (cell_place l (mutex_of l c))) (acts_as c) x
      (points_after (begins l t c) [] answers)
  -- each point but that of a lock has a reply that the object permits for the cell that the call's first load met
  pub permitted : (l : Layout') (t : ℕ) (c : CondCall) (answers : List Answer) → 1 ≤ t
      → All (IsPermittedFirst t (first_met answers)) (points_after (begins l t c) [] answers)
  -- where a wait takes its mutex again it is a lock, of which all holds that the mutex's laws say of whole calls
  pub locks : (l : Layout') (t : ℕ) (c : CondCall) (answers : List Answer) (w : Whole) → 1 ≤ t
      → (cond_reached (begins l t c) answers).phase ≡ Locking w → IsLockOf l t c w
