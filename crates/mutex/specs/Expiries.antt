-- What holds of a lock whose time limit comes while it sleeps (pthread_mutex_timedlock(3p)).
use Rattle.std.specs.Prelude.{ℕ, ◌≡◌, Bool, true, List, []}
use Rattle.lockword.specs.declared.reply.Reply.TheVariants.{ETIMEDOUT}
use Rattle.stepprograms.specs.declared.access.Access.TheVariants as access
use Rattle.stepprograms.specs.declared.access.Answer.{Answer}
use Rattle.stepprograms.specs.declared.access.Answer.TheVariants.{Stored}
use Rattle.memorymap.specs.Layouts.{Layout'}
use Rattle.posixmutex.specs.declared.point.Operation.TheVariants as operation
use Rattle.mutex.specs.declared.call.Call.{Call}
use Rattle.mutex.specs.declared.phase.Phase.TheVariants.{Ended}
use Rattle.mutex.specs.Standings.{Whole}
use Rattle.mutex.specs.Whole.{begins, may_expire, onward, pending_place, timed_out, whole_access, whole_led}
use Rattle.mutex.specs.WholeLaws.{whole_reached}
use Rattle.mutex.specs.Decisions.{decided_by}
use Rattle.mutex.specs.WholeLists.{KeepsList}

pub record ExpiriesAreRight : Type 0 where
  -- the access that is left clears the pending entry, and after it the call returns
  pub clears : (p : Whole) → whole_access (timed_out p) ≡ access.Store (pending_place p.head) 0
  pub returns : (p : Whole) → whole_led (timed_out p) Stored ≡ onward (Ended ETIMEDOUT)
  -- it had no point before, whatever it was answered
  pub undecided : (l : Layout') (t : ℕ) (c : Call) (answers : List Answer)
      → may_expire (whole_reached (begins l t c) answers).phase ≡ true → decided_by (begins l t c) answers ≡ []
  -- its list is whole, and its entry is pending until it is cleared: so is it where the thread dies in between
  pub lists : (l : Layout') (t : ℕ) (owns : ℕ → Bool) (m : ℕ) (p : Whole) (w : ℕ → ℕ) → may_expire p.phase ≡ true
      → KeepsList l t owns m operation.Lock p.phase w → KeepsList l t owns m operation.Lock (timed_out p).phase w
