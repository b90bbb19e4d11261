-- Calls that wait for nobody, from their beginning to their end.
use Rattle.std.proofs.Common.{◌≡◌, ℕ, false, subst}
use Rattle.std.specs.Prelude.{nat_le}
use Rattle.lockword.specs.declared.reply.Reply.{Reply}
use Rattle.posixmutex.specs.declared.point.Operation.TheVariants as operation
use Rattle.mutex.specs.declared.call.Call.{Call}
use Rattle.mutex.specs.declared.call.Call.TheVariants as call
use Rattle.ruledwords.specs.declared.pass.Words.{Words}
use Rattle.ruledwords.specs.declared.pass.Pass.{Pass}
use Rattle.ruledwords.specs.declared.pass.Live.{Live}
use Rattle.ruledwords.specs.declared.turn.Outcome.{Outcome}
use Rattle.ruledwords.specs.declared.turn.Outcome.TheVariants as outcome
use Rattle.ruledwords.specs.declared.turn.Running.{Running}
use Rattle.ruledwords.specs.Outcomes.{card_after, Declared, Finishes, Tried}
use Rattle.memorymap.specs.Layouts.{cell_place}
use Rattle.ruledwords.specs.Passes.{card, layout_of}
use Rattle.ruledwords.specs.Seen.{held}
use Rattle.ruledwords.specs.Turns.{running_call, running_pass, IsIn, IsRaced, IsUnderWay, TrimsNone}
use Rattle.ruledwords.proofs.Beginnings.{picks_false}

module _ (w : Words) (a : Pass Live) (r : Running) where
  -- a running call stands where it is
  pub stands_in : (call : Call) → IsUnderWay w a call r → IsIn w a call (running_pass r) (running_call r)
  stands_in call u = (record { ready = r.ready; room = r.room; going = r.going; words = u.0 }, u)

  pub tried : (m : ℕ) (o : Outcome) → IsUnderWay w a (call.TryLock m) r → nat_le 2048 (held (card a)) ≡ false → Finishes w (running_pass r) (running_call r) o → TrimsNone (card a) (card_after o) → Tried w m a o
  tried m (outcome.Lives b y) u few finishes untrimmed =
      let end = finishes a (call.TryLock m) (stands_in (call.TryLock m) u) in
      (end.0, picks_false (nat_le 2048 (held (card a))) _ _ few end.1, λ raced. subst (λ (x : Reply). IsRaced operation.TryLock x (card a) (cell_place (layout_of w) m) (card b)) raced end.2, untrimmed)
  tried m (outcome.Dead d) u few finishes untrimmed = let died = finishes a (call.TryLock m) (stands_in (call.TryLock m) u) in (died.0, (few, died.1), untrimmed)

  pub declared : (m : ℕ) (o : Outcome) → IsUnderWay w a (call.Consistent m) r → Finishes w (running_pass r) (running_call r) o → TrimsNone (card a) (card_after o) → Declared w m a o
  declared m (outcome.Lives b y) u finishes untrimmed = let end = finishes a (call.Consistent m) (stands_in (call.Consistent m) u) in (end.0, end.1, untrimmed)
  declared m (outcome.Dead d) u finishes untrimmed = let died = finishes a (call.Consistent m) (stands_in (call.Consistent m) u) in (died.0, died.1, untrimmed)
