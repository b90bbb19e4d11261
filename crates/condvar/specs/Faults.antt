-- When a whole call returns EFAULT, whatever it is answered.
use Rattle.std.specs.Prelude.{ℕ, ◌≡◌, ◌≢◌, List}
use Rattle.lockword.specs.declared.reply.Reply.TheVariants.{EFAULT}
use Rattle.stepprograms.specs.declared.access.Answer.{Answer}
use Rattle.stepprograms.specs.Accesses.{IsAnswerOf}
use Rattle.memorymap.specs.Layouts.{Layout'}
use Rattle.condvar.specs.declared.call.CondCall.{CondCall}
use Rattle.condvar.specs.declared.phase.CondPhase.TheVariants.{Ended}
use Rattle.condvar.specs.Whole.{begins, cond_access, cond_led, IsUnderWay}
use Rattle.condvar.specs.WholeLaws.{cond_reached}

-- a call returns EFAULT exactly after an answer that its access doesn't have
pub record FaultsAreTold : Type 0 where
  pub faulted : (l : Layout') (t : ℕ) (c : CondCall) (answers : List Answer) (a : Answer)
      → IsUnderWay (cond_reached (begins l t c) answers).phase
      → ¬ IsAnswerOf (cond_access (cond_reached (begins l t c) answers)) a
      → (cond_led (cond_reached (begins l t c) answers) a).phase ≡ Ended EFAULT
  pub answered : (l : Layout') (t : ℕ) (c : CondCall) (answers : List Answer) (a : Answer)
      → IsUnderWay (cond_reached (begins l t c) answers).phase
      → IsAnswerOf (cond_access (cond_reached (begins l t c) answers)) a
      → (cond_led (cond_reached (begins l t c) answers) a).phase ≢ Ended EFAULT
