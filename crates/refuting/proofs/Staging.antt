-- Threads' turns go with their stages.
use Rattle.std.proofs.Common.{◌≡◌, ℕ, ◌==◌, Bool, true, false, List, [], ◌∷◌, refl, ap, subst, arith}
use Rattle.std.specs.Prelude.{if◌then◌else◌, Option, Some, None}
use Rattle.std.proofs.lemmas.Bool.Decides.{nat_tests}
use Rattle.lockword.specs.declared.reply.Reply.{Reply}
use Rattle.facts.specs.declared.fact.Begun.{Begun}
use Rattle.facts.specs.declared.fact.Fact.{Fact}
use Rattle.facts.specs.declared.fact.Fact.TheVariants.{Begin, Kill, Point, Death, Sleep, Wake, Move, Return, Reap, Renew}
use Rattle.facts.specs.declared.fact.Line.{Line}
use Rattle.facts.specs.Facts.{thread_of}
use Rattle.verdict.specs.declared.stage.Made.{Made}
use Rattle.verdict.specs.declared.stage.Stage.{Stage}
use Rattle.verdict.specs.declared.stage.Stage.TheVariants as stage
use Rattle.verdict.specs.Earlier.{is_killed, told_of}
use Rattle.verdict.specs.Stages.{May, next}
use Rattle.verdict.specs.Verdicts.{AllFit}
use Rattle.verdict.proofs.Stages.{Kept, fits_may, next_kept, unkilled}
use Rattle.histories.specs.declared.entry.Entry.TheVariants.{Told}
use Rattle.histories.specs.Histories.{is_hidden}
use Rattle.refuting.specs.declared.turn.Turn.{Turn}
use Rattle.refuting.specs.declared.turn.Turn.TheVariants.{Resting, Calling, Dying, Reaped}
use Rattle.refuting.specs.Following.{stage_after}
use Rattle.refuting.specs.Turns.{AtRest, InCall, IsKilled, IsReaped, Turned, after_doom, turn_after}

-- ---- the stage of each thread of a trace

kept_on : (e : Line) (es : List Line) (t : ℕ) → Kept (stage_after t es) (told_of t es) → May (stage_after (thread_of e.fact) es) e.fact → Kept (stage_after t (e ∷ es)) (told_of t (e ∷ es))
kept_on e es t kept may = by_cases (thread_of e.fact == t) refl where
  by_cases : (b : Bool) → (thread_of e.fact == t) ≡ b → Kept (if b then next (stage_after t es) e.fact else stage_after t es) (if b then e.fact ∷ told_of t es else told_of t es)
  by_cases true is =
      let same : thread_of e.fact ≡ t = grind (arith, nat_tests) in
      next_kept (stage_after t es) e.fact (told_of t es) kept (subst (λ u. May (stage_after u es) e.fact) same may)
  by_cases false is = kept

pub stage_kept : (n : ℕ) (es : List Line) → AllFit n es → (t : ℕ) → Kept (stage_after t es) (told_of t es)
stage_kept n [] fit t = (refl, refl, refl, refl)
stage_kept n (e ∷ es) fit t = kept_on e es t (stage_kept n es fit.1 t) (fits_may (stage_after (thread_of e.fact) es) e.fact (told_of (thread_of e.fact) es) (stage_kept n es fit.1 (thread_of e.fact)) fit.0.of_thread)

pub stage_may : (n : ℕ) (e : Line) (es : List Line) → AllFit n (e ∷ es) → May (stage_after (thread_of e.fact) es) e.fact
stage_may n e es fit = fits_may (stage_after (thread_of e.fact) es) e.fact (told_of (thread_of e.fact) es) (stage_kept n es fit.1 (thread_of e.fact)) fit.0.of_thread

-- ---- from line to line

pub record TurnsTo (turn : Turn) (f : Fact) (x : Option Reply) (s : Stage) : Type 0 where
  pub after : Turn
  pub is : turn_after turn (Told f) x ≡ Some after
  pub turned : Turned after s false

resting_told : (f : Fact) (x : Option Reply) → May stage.Resting f → TurnsTo Resting f x (next stage.Resting f)
resting_told (Begin t c) x may = record { after = Calling c x; is = refl; turned = refl }
resting_told (Kill t) x may = record { after = Dying None; is = refl; turned = tt }
resting_told f x may = absurd may

calling_told : (c d : Begun) (y : Option Reply) (made : Made) (z : Bool) (f : Fact) (x : Option Reply) → May (stage.Calling d made z) f → is_hidden f ≡ false → TurnsTo (Calling c y) f x (next (stage.Calling d made z) f)
calling_told c d y made z (Return t r) x may seen = record { after = Resting; is = refl; turned = tt }
calling_told c d y made z (Kill t) x may seen = record { after = Dying None; is = refl; turned = tt }
calling_told c d y made z (Point p) x may seen = absurd cc
calling_told c d y made z (Sleep t q) x may seen = absurd cc
calling_told c d y made z (Wake t) x may seen = absurd cc
calling_told c d y made z (Move t m) x may seen = absurd cc
calling_told c d y made z f x may seen = absurd may

dying_told : (c : Option Begun) (f : Fact) (x : Option Reply) → May stage.Dying f → is_hidden f ≡ false → TurnsTo (Dying c) f x (next stage.Dying f)
dying_told c (Reap t) x may seen = record { after = Reaped; is = refl; turned = tt }
dying_told c (Death t m) x may seen = absurd cc
dying_told c f x may seen = absurd may

reaped_told : (f : Fact) (x : Option Reply) → May stage.Reaped f → TurnsTo Reaped f x (next stage.Reaped f)
reaped_told (Renew t) x may = record { after = Resting; is = refl; turned = tt }
reaped_told f x may = absurd may

-- a line that is seen, of a thread that isn't doomed
pub turned_told : (turn : Turn) (s : Stage) (f : Fact) (x : Option Reply) → Turned turn s false → May s f → is_hidden f ≡ false → TurnsTo turn f x (next s f)
turned_told Resting stage.Resting f x is may seen = resting_told f x may
turned_told (Calling c y) (stage.Calling d made z) f x is may seen = calling_told c d y made z f x may seen
turned_told (Dying c) stage.Dying f x is may seen = dying_told c f x may seen
turned_told Reaped stage.Reaped f x is may seen = reaped_told f x may
turned_told turn s f x is may seen = absurd is

-- one that nobody sees
pub turned_hidden : (turn : Turn) (s : Stage) (f : Fact) (d : Bool) → Turned turn s d → May s f → is_hidden f ≡ true → Turned turn (next s f) d
turned_hidden turn stage.Resting (Begin t c) d is may hid = absurd cc
turned_hidden turn stage.Resting (Kill t) d is may hid = absurd cc
turned_hidden turn stage.Resting f d is may hid = absurd may
turned_hidden turn stage.Reaped (Renew t) d is may hid = absurd cc
turned_hidden turn stage.Reaped f d is may hid = absurd may
turned_hidden turn stage.Dying (Death t m) d is may hid = is
turned_hidden turn stage.Dying (Reap t) d is may hid = absurd cc
turned_hidden turn stage.Dying f d is may hid = absurd may
turned_hidden turn (stage.Calling k made z) (Point p) d is may hid = is
turned_hidden turn (stage.Calling k made z) (Sleep t q) d is may hid = is
turned_hidden turn (stage.Calling k made z) (Wake t) d is may hid = is
turned_hidden turn (stage.Calling k made z) (Move t m) d is may hid = is
turned_hidden turn (stage.Calling k made z) (Kill t) d is may hid = absurd cc
turned_hidden turn (stage.Calling k made z) (Return t x) d is may hid = absurd cc
turned_hidden turn (stage.Calling k made z) f d is may hid = absurd may

-- the kill of a doomed thread
rest_killed : (turn : Turn) → AtRest turn true → IsKilled turn false
rest_killed (Dying c) is = tt
rest_killed turn is = absurd is

call_killed : (k : Begun) (turn : Turn) → InCall k turn true → IsKilled turn false
call_killed k (Dying c) is = tt
call_killed k turn is = absurd is

never_killed : (turn : Turn) → IsKilled turn true → ⊥
never_killed (Dying c) is = is
never_killed turn is = is

never_reaped : (turn : Turn) → IsReaped turn true → ⊥
never_reaped Reaped is = is
never_reaped turn is = is

pub turned_kill : (turn : Turn) (s : Stage) (t : ℕ) → Turned turn s true → Turned turn (next s (Kill t)) false
turned_kill turn stage.Resting t is = rest_killed turn is
turned_kill turn (stage.Calling k made z) t is = call_killed k turn is
turned_kill turn stage.Dying t is = absurd (never_killed turn is)
turned_kill turn stage.Reaped t is = absurd (never_reaped turn is)

-- a doom
pub record IsDoomed (turn : Turn) (s : Stage) : Type 0 where
  pub after : Turn
  pub is : after_doom turn ≡ Some after
  pub turned : Turned after s true

pub turned_doom : (turn : Turn) (s : Stage) (fs : List Fact) → Turned turn s false → Kept s fs → is_killed fs ≡ false → IsDoomed turn s
turned_doom Resting stage.Resting fs is kept alive = record { after = Dying None; is = refl; turned = refl }
turned_doom (Calling c x) (stage.Calling k made z) fs is kept alive = record { after = Dying (Some c); is = refl; turned = ap Some is }
turned_doom (Dying c) stage.Dying fs is kept alive = absurd (unkilled (is_killed fs) kept.2 alive)
turned_doom Reaped stage.Reaped fs is kept alive = absurd (unkilled (is_killed fs) kept.2 alive)
turned_doom turn s fs is kept alive = absurd is
