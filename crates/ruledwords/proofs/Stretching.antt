-- A running call whose accesses are made one after the other.
use Rattle.std.proofs.Common.{◌≡◌, ℕ, Result, Ok, Err, sym, subst}
use Rattle.lockword.specs.declared.reply.Reply.{Reply}
use Rattle.memorymap.specs.Layouts.{cell_place}
use Rattle.mutex.specs.Standings.{Whole}
use Rattle.mutex.specs.declared.call.Call.{Call}
use Rattle.ruledwords.specs.declared.pass.Card.{Card}
use Rattle.ruledwords.specs.declared.pass.Words.{Words}
use Rattle.ruledwords.specs.declared.pass.Pass.{Pass}
use Rattle.ruledwords.specs.declared.pass.Live.{Live}
use Rattle.ruledwords.specs.declared.pass.Dead.{Dead}
use Rattle.ruledwords.specs.declared.step.End.{End}
use Rattle.ruledwords.specs.declared.step.End.TheVariants as end
use Rattle.ruledwords.specs.declared.turn.Running.{Running}
use Rattle.ruledwords.specs.declared.turn.Stretch.TheVariants as stretch
use Rattle.ruledwords.specs.Lists.{IsMortal}
use Rattle.ruledwords.specs.Passes.{card, layout_of, IsDying, IsPassOf}
use Rattle.ruledwords.specs.Stretches.{ComesOn, ComesToEnd, IsDecidedIn, StepsTo, Stretches}
use Rattle.ruledwords.specs.Turns.{running_call, running_of, running_pass, HasSeenTheSame, IsCallOf, IsDecided, IsIn, IsRunningOf, IsUnderWay}
use Rattle.ruledwords.proofs.Listing.{mortal}
use Rattle.ruledwords.proofs.Stepping.{after, comes_further}
use Rattle.ruledwords.proofs.Turning.{died_in}

-- accesses, and more of them
pub stretched_on : (w : Words) (a : Pass Live) (p : Whole) (b : Pass Live) (q : Whole) (d : Pass Live) (r : Result Whole End) → ComesOn w a p b q → StepsTo w b q d r → StepsTo w a p d r
stretched_on w a p b q d (Ok s) first more = comes_further w a p b q d s first more
stretched_on w a p b q d (Err e) first more = after w a p b q d e first more

module _ (w : Words) (r : Running) (there : IsRunningOf w r) where
  -- where it stands
  pub in_place : IsCallOf w (running_pass r) (running_call r)
  in_place = record { ready = r.ready; room = r.room; going = r.going; words = there }

  under_way : (a : Pass Live) (call : Call) → IsUnderWay w a call r → IsIn w a call (running_pass r) (running_call r)
  under_way a call u = (record { ready = r.ready; room = r.room; going = r.going; words = u.0 }, u)

  decided : (m : ℕ) (c : Card) (x : Reply) → IsDecided w m c x r → IsDecidedIn w m c x (running_pass r) (running_call r)
  decided m c x was = (record { ready = r.ready; room = r.room; going = r.going; words = was.0 }, was)

  module _ (b : Pass Live) where
    pub goes_on : (q : Whole) (on : ComesOn w (running_pass r) (running_call r) b q) → Stretches w r (stretch.Goes (running_of w b q on.0))
    goes_on q on = (on.0.words, (λ a call u. (on.1 a call (under_way a call u)).1), (λ m c x was. (on.2 m c x (decided m c x was)).1))

    pub replies : (x : Reply) → ComesToEnd w (running_pass r) (running_call r) b (end.Replied x) → Stretches w r (stretch.Lives b x)
    replies x ends = (tt, (λ a call u. ends.0 a call (under_way a call u)), (λ m c y was. ends.1 m c y (decided m c y was)))

    pub dies : ComesToEnd w (running_pass r) (running_call r) b end.Stopped → (d : Pass Dead) → card d ≡ card b → (IsPassOf w b → IsPassOf w d) → Stretches w r (stretch.Dead d)
    dies ends d same of = (
      tt,
      (λ a call u.
          let t = ends.1.1 a call (under_way a call u) in
          let f = died_in w a call (running_of w b ends.0 t.0) (card d) t.1 same in
          (dying t.0, f.0, f.1)),
      (λ m c x was.
          let t = ends.1.2 m c x (decided m c x was) in
          (dying t.0, subst (λ (z : Card). HasSeenTheSame (cell_place (layout_of w) m) c z) (sym same) t.1.3)),
    ) where
      dying : IsCallOf w b ends.0 → IsDying w d
      dying on = (of on.words.0, subst (IsMortal (layout_of w)) (sym same) (mortal (layout_of w) (card b) on.words.0.1 on.words.1.0 ends.0 on.words.1.1))
