-- Calls that were begun, came so far, and were run out.
use Rattle.std.proofs.Common.{◌≡◌, ℕ, Bool, true, false, refl, sym, ap, subst, arith}
use Rattle.std.specs.Prelude.{nat_le, MatchBool}
use Rattle.lockword.specs.declared.reply.Reply.{Reply}
use Rattle.lockword.specs.declared.reply.Reply.TheVariants.{XHELD}
use Rattle.mutex.specs.declared.call.Call.TheVariants as call
use Rattle.condvar.specs.declared.op.Op.TheVariants.{OnMutex}
use Rattle.ruledwords.specs.declared.pass.Words.{Words}
use Rattle.ruledwords.specs.declared.pass.Pass.{Pass}
use Rattle.ruledwords.specs.declared.pass.Dead.{Dead}
use Rattle.ruledwords.specs.declared.pass.Live.{Live}
use Rattle.ruledwords.specs.declared.turn.Outcome.{Outcome}
use Rattle.ruledwords.specs.declared.turn.Outcome.TheVariants as outcome
use Rattle.ruledwords.specs.declared.uncrossed.Crossing.{Crossing}
use Rattle.ruledwords.specs.declared.uncrossed.Straight.TheVariants as straight
use Rattle.ruledwords.specs.Fates.{Heeds}
use Rattle.ruledwords.specs.Outcomes.{Declared, Tried}
use Rattle.ruledwords.specs.Passes.{card, IsLive}
use Rattle.ruledwords.specs.Seen.{held}
use Rattle.ruledwords.specs.Straight.{CrossedFrom, IsCrossingOf, LocksStraight, StraightFrom}
use Rattle.ruledwords.proofs.Beginnings.{picks_true}
use Rattle.threadbench.specs.Answered.{CallEnds}
use Rattle.threadbench.specs.Calls.{IsHeeded, Locked, RanOut}
use Rattle.threadbench.proofs.Turning.{ran_locked}

-- a call whose fates let it go on so far, and what it was told then
pub heeded_on : (f g f' n n' : ℕ) (end : Outcome) → Heeds f g n n' 0 → IsHeeded g f' end → IsHeeded f f' end
heeded_on f g f' n n' end so_far heeded =
    let x = so_far.fate in
    let y = so_far.note in
    let once = so_far.once in
    let same : g ≡ f = omega (arith, x, y, once) in
    subst (λ (z : ℕ). IsHeeded z f' end) same heeded

-- ---- a lock

-- where it left its line
pub lock_goes_on : (w : Words) (m : ℕ) (a : Pass Live) (x : Crossing) → LocksStraight w m a (straight.Crossed x) → IsCrossingOf w x
lock_goes_on w m a x so = go (nat_le 2048 (held (card a))) so
  where
    go : (b : Bool) → MatchBool b (straight.Crossed x ≡ straight.Lives a XHELD) (CrossedFrom w a (call.Lock m) x) → IsCrossingOf w x
    go true is = absurd (cc is)
    go false so = (a, call.Lock m, so)

-- and ended, from there
pub lock_ran : (w : Words) (m : ℕ) (a : Pass Live) (x : Crossing) (end : Outcome) → LocksStraight w m a (straight.Crossed x) → (CrossedFrom w a (call.Lock m) x → RanOut w a (call.Lock m) end) → Locked w m a end
lock_ran w m a x end so runs = go (nat_le 2048 (held (card a))) refl so
  where
    go : (b : Bool) → nat_le 2048 (held (card a)) ≡ b → MatchBool b (straight.Crossed x ≡ straight.Lives a XHELD) (CrossedFrom w a (call.Lock m) x) → Locked w m a end
    go true many is = absurd (cc is)
    go false few so = ran_locked w a m end few (runs so)

-- it replied, or was refused
pub lock_lives : (w : Words) (m : ℕ) (a b : Pass Live) (x : Reply) → IsLive w a → LocksStraight w m a (straight.Lives b x) → Locked w m a (outcome.Lives b x)
lock_lives w m a b x live so = go (nat_le 2048 (held (card a))) refl so
  where
    go : (t : Bool) → nat_le 2048 (held (card a)) ≡ t → MatchBool t (straight.Lives b x ≡ straight.Lives a XHELD) (StraightFrom w a (call.Lock m) (straight.Lives b x)) → Locked w m a (outcome.Lives b x)
    go true many is =
        let same : b ≡ a = cc in
        let told : x ≡ XHELD = cc in
        (subst (λ (z : Pass Live). IsLive w z) (sym same) live, picks_true (nat_le 2048 (held (card a))) _ _ many (told, ap (λ (z : Pass Live). card z) same))
    go false few so = ran_locked w a m (outcome.Lives b x) few so.0

pub lock_dies : (w : Words) (m : ℕ) (a : Pass Live) (d : Pass Dead) → LocksStraight w m a (straight.Dead d) → Locked w m a (outcome.Dead d)
lock_dies w m a d so = go (nat_le 2048 (held (card a))) refl so
  where
    go : (b : Bool) → nat_le 2048 (held (card a)) ≡ b → MatchBool b (straight.Dead d ≡ straight.Lives a XHELD) (StraightFrom w a (call.Lock m) (straight.Dead d)) → Locked w m a (outcome.Dead d)
    go true many is = absurd (cc is)
    go false few so = ran_locked w a m (outcome.Dead d) few so.0

-- ---- an unlock

pub unlocked : (w : Words) (m : ℕ) (a : Pass Live) (end : Outcome) → RanOut w a (call.Unlock m) end → CallEnds w a (OnMutex (call.Unlock m)) end
unlocked w m a (outcome.Lives b r) ran = (ran.0, ran.1)
unlocked w m a (outcome.Dead d) ran = (ran.0, ran.1)

-- ---- calls that wait for nobody

pub tried : (w : Words) (m : ℕ) (a : Pass Live) (end : Outcome) → Tried w m a end → CallEnds w a (OnMutex (call.TryLock m)) end
tried w m a (outcome.Lives b r) so = (so.0, (so.1, so.2))
tried w m a (outcome.Dead d) so = (so.0, so.1)

pub declared : (w : Words) (m : ℕ) (a : Pass Live) (end : Outcome) → Declared w m a end → CallEnds w a (OnMutex (call.Consistent m)) end
declared w m a (outcome.Lives b r) so = (so.0, so.1)
declared w m a (outcome.Dead d) so = (so.0, so.1)
