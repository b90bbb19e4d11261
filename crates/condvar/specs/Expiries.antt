-- What holds of a wait with a time limit (pthread_cond_timedwait(3p)).
--
-- *A right wait with a time limit.* Its accesses and its points are those of a wait. Where a call sleeps on its condition
-- variable it has released its mutex, and had no other point. So its time limit, which comes only there, comes after
-- its unlock; and what it does then it does as one that is woken: it locks its mutex. Its reply is that of a wait,
-- but ETIMEDOUT for OK, where the limit came. A call begins with its limit ahead, and a limit comes of such a wait
-- alone.
use Rattle.std.specs.Prelude.{ℕ, ◌≡◌, ◌≢◌, ◌≤◌, ◌↔◌, Bool, true, List, [], ◌∷◌, Option, Some}
use Rattle.lockword.specs.declared.reply.Reply.{Reply}
use Rattle.lockword.specs.declared.reply.Reply.TheVariants.{OK, ETIMEDOUT}
use Rattle.stepprograms.specs.declared.access.Answer.{Answer}
use Rattle.stepprograms.specs.declared.access.Answer.TheVariants.{Woken}
use Rattle.posixmutex.specs.declared.point.Operation.TheVariants as operation
use Rattle.memorymap.specs.Layouts.{Layout', cell_place, address_in}
use Rattle.mutex.specs.Whole as mutex
use Rattle.condvar.specs.declared.call.CondCall.{CondCall}
use Rattle.condvar.specs.declared.call.CondCall.TheVariants.{Wait, TimedWait}
use Rattle.condvar.specs.declared.call.Limit.{Limit}
use Rattle.condvar.specs.declared.call.Limit.TheVariants.{Ahead, Past}
use Rattle.condvar.specs.declared.wait.WaitRow.TheVariants.{Sleep}
use Rattle.condvar.specs.declared.row.CondRow.TheVariants as row
use Rattle.condvar.specs.declared.phase.CondPhase.{CondPhase}
use Rattle.condvar.specs.declared.phase.CondPhase.TheVariants.{AtWords, Locking}
use Rattle.condvar.specs.Calls.{expired, is_ahead, reply_of}
use Rattle.condvar.specs.Programs.{mutex_of}
use Rattle.condvar.specs.Standings.{CondWhole}
use Rattle.condvar.specs.Whole.{begins, cond_led, onward}
use Rattle.condvar.specs.WholeLaws.{cond_reached, points_after, point}

-- the call is out of time
abbrev pub IsLate : CondCall → Type 0
IsLate c = (k : ℕ) × (c ≡ TimedWait k Past)

-- it sleeps on its counter, or is about to
abbrev pub SleepsNext : CondPhase → Type 0
SleepsNext f = (seen : ℕ) × (f ≡ AtWords (row.Wait (Sleep seen)))

pub record TimedWaitsAreRight : Type 0 where
  -- its time limit changes none of its accesses
  pub waits : (l : Layout') (t k : ℕ) (x : Limit) → begins l t (TimedWait k x) ≡ begins l t (Wait k)
  -- where a call sleeps it has unlocked its mutex, and nothing else, whatever it was answered
  pub unlocked : (l : Layout') (t : ℕ) (c : CondCall) (answers : List Answer) → 1 ≤ t
      → SleepsNext (cond_reached (begins l t c) answers).phase
      → points_after (begins l t c) [] answers
      ≡ point t (address_in l t (cell_place l (mutex_of l c))) operation.Unlock OK ∷ []
  -- from there it locks its mutex, whose entry is pending
  pub locks : (p : CondWhole) → SleepsNext p.phase
      → cond_led p Woken ≡ onward (Locking (mutex.retaking p.thread p.head p.entry p.cell))
  -- ETIMEDOUT takes the place of OK, of a call that is out of time; every other reply is returned as it is
  pub late : (c : CondCall) (x : Reply) → x ≢ ETIMEDOUT → (reply_of c x ≡ ETIMEDOUT) ↔ (IsLate c × (x ≡ OK))
  pub otherwise : (c : CondCall) (x : Reply) → reply_of c x ≢ ETIMEDOUT → reply_of c x ≡ x
  -- one begins with its limit ahead, as all calls do but those that are out of time
  pub begins : (c : CondCall) → (is_ahead c ≡ true) ↔ (¬ IsLate c)
  -- a limit that comes is a timed wait's, and makes it one that is out of time
  pub comes : (c d : CondCall) → (expired c ≡ Some d)
      ↔ (k : ℕ) × ((x : Limit) × (c ≡ TimedWait k x)) × (d ≡ TimedWait k Past)
