-- Before the first line.
use Rattle.std.proofs.Common.{zero, suc, ◌≡◌, ℕ, Bool, false, List, [], ◌∷◌, length, refl, sym, subst, ◌∙◌, arith}
use Rattle.std.specs.Prelude.{Contains}
use Rattle.facts.specs.declared.fact.Line.{Line}
use Rattle.facts.specs.Orders.{Each}
use Rattle.verdict.specs.Judges.{IsMutex}
use Rattle.verdict.specs.Verdicts.{AllFit}
use Rattle.histories.specs.declared.entry.Entry.{Entry}
use Rattle.histories.specs.declared.entry.Entry.TheVariants.{Told, Doom}
use Rattle.histories.specs.Histories.{AllReleaseWell, Certifies, without}
use Rattle.histories.specs.Histories.{Shows, Nothing, Hides, Tells, Dooms, Kills}
use Rattle.refuting.specs.declared.refuter.Refuter.{Refuter}
use Rattle.refuting.specs.declared.state.State.{State}
use Rattle.refuting.specs.declared.turn.Turn.{Turn}
use Rattle.refuting.specs.declared.turn.Turn.TheVariants.{Resting, Calling}
use Rattle.refuting.specs.Steps.{IsClosed, Sees}
use Rattle.refuting.specs.Following.{Follows, StandsFor, stage_after}
use Rattle.refuting.specs.Turns.{Turned, turn_at}
use Rattle.refuting.specs.Counts.{count_at}
use Rattle.posixmutex.specs.Histories.{held_by}
use Rattle.verdict.specs.Earlier.{objects_after}
use Rattle.refuting.proofs.Tallying.{Tally, hidden_tally, killed_tally}
use Rattle.refuting.proofs.Closure.{rests}
use Rattle.refuting.proofs.Telling.{Known, Standing, hidden_line, killed_line}
use Rattle.refuting.specs.States.{ids}

-- a trace of which nothing is seen
unseen : (m : ℕ) (n : ℕ) (ts : List Turn) (ss : List State) → Known m ts ss → Standing m ts ss (λ t. false) []
    → (d : ℕ → Bool) (es : List Line) (g : List Entry) → Shows d es g → g ≡ [] → AllFit n es → AllReleaseWell es → Each (λ l. IsMutex n l.fact) es → Standing m ts ss d es
unseen m n ts ss known first d es g Nothing is fit well inside = first
unseen m n ts ss known first d es g (Hides d' l es' g' hid shows) is fit well inside =
    hidden_line n m ts ss d' l es' known (unseen m n ts ss known first d' es' g' shows is fit.1 well.1 inside.1) hid fit well.0
unseen m n ts ss known first d es g (Tells d' l es' g' seen free shows) is fit well inside = let no : Told l.fact ∷ g' ≡ [] = is in absurd cc
unseen m n ts ss known first d es g (Dooms d' u es' g' free alive shows) is fit well inside = let no : Doom u ∷ g' ≡ [] = is in absurd cc
unseen m n ts ss known first d es g (Kills d' u l es' g' kill doomed shows) is fit well inside =
    subst (λ f. Standing m ts ss (without u d') (record { event = l.event; fact = f } ∷ es')) (sym kill)
    (killed_line m ts ss d' l.event u es' known (unseen m n ts ss known first d' es' g' shows is fit.1 well.1 inside.1) doomed)

opening_held : (t n : ℕ) → held_by t (objects_after []) n ≡ 0
opening_held t zero = refl
opening_held t (suc n) = let rest = opening_held t n in omega (arith, rest)

counts : (n : ℕ) (lines : ℕ → ℕ) → ((t : ℕ) → lines t ≡ 0) → (d : ℕ → Bool) (es : List Line) (g : List Entry) → Shows d es g → g ≡ [] → AllFit n es → AllReleaseWell es → Each (λ l. IsMutex n l.fact) es → Tally n es lines
counts n lines none d es g Nothing is fit well inside = λ t. opening_held t n ∙ sym (none t)
counts n lines none d es g (Hides d' l es' g' hid shows) is fit well inside = hidden_tally n l es' lines hid fit inside.0 (counts n lines none d' es' g' shows is fit.1 well.1 inside.1)
counts n lines none d es g (Tells d' l es' g' seen free shows) is fit well inside = let no : Told l.fact ∷ g' ≡ [] = is in absurd cc
counts n lines none d es g (Dooms d' u es' g' free alive shows) is fit well inside = let no : Doom u ∷ g' ≡ [] = is in absurd cc
counts n lines none d es g (Kills d' u l es' g' kill doomed shows) is fit well inside =
    subst (λ f. Tally n (record { event = l.event; fact = f } ∷ es') lines) (sym kill) (killed_tally n l.event u es' lines (counts n lines none d' es' g' shows is fit.1 well.1 inside.1))

pub begins : (r : Refuter) → length r.turns ≡ ids → length r.held ≡ ids → ((t : ℕ) → count_at r.held t ≡ 0) → ((t : ℕ) → turn_at r.turns t ≡ Resting) → (s : State) → r.states.items ≡ s ∷ [] → StandsFor r.mutex r.turns [] s
    → (n : ℕ) (future : List Entry) → Follows n [] future r
begins r long holds none rest s only stands n future = record {
  long = long;
  nobody = rest 0;
  knows = λ t k x is. let no : Resting ≡ Calling k x = sym (rest t) ∙ is in absurd cc;
  turned = λ d es c. (all d es c).turned;
  stands = λ d es c. let st = (all d es c).stood in (st.state, st.there, st.stands, st.waits);
  holds = holds;
  counted = λ d es c. counts n (count_at r.held) none d es [] c.shows refl c.fits c.waits c.inside;
  closed = closed;
} where
  there : Contains r.states.items s
  there = subst (λ ss. Contains ss s) (sym only) (0, omega arith, refl)

  closed : IsClosed r.mutex r.turns r.states.items
  closed = record {
    noted = λ q has t low sees. absurd (subst (λ z. Sees r.mutex z q t) (rest t) sees);
    followed = λ q has t low. rests r.mutex r.turns r.states.items q t (rest t);
  }

  known : Known r.mutex r.turns r.states.items
  known = record { long = long; nobody = rest 0; closed = closed }

  first : Standing r.mutex r.turns r.states.items (λ t. false) []
  first = record {
    turned = λ t. subst (λ z. Turned z (stage_after t []) false) (sym (rest t)) tt;
    stood = record { state = s; there = there; stands = stands; waits = λ t. tt };
  }

  all : (d : ℕ → Bool) (es : List Line) → Certifies n d es [] → Standing r.mutex r.turns r.states.items d es
  all d es c = unseen r.mutex n r.turns r.states.items known first d es [] c.shows refl c.fits c.waits c.inside
