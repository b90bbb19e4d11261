-- Each line of a run fits the lines before it.
use Rattle.std.proofs.Common.{◌≡◌, ◌≢◌, inl, inr, ℕ, ◌==◌, Bool, true, false, Option, Some, None, List, [], ◌∷◌, ◌++◌, map, append_assoc, append-nil, refl, sym, ap, ◌∙◌, subst, eqb-true, eq-eqb}
use Rattle.std.specs.Prelude.{if◌then◌else◌, MatchBool, reverse}
use Rattle.std.proofs.lemmas.List.{reverse-append}
use Rattle.std.proofs.lemmas.Bool.{eqb-false}
use mathlib.Core.Path.{fun_ext}
use Rattle.posixmutex.specs.declared.object.Object.{Object}
use Rattle.posixmutex.specs.declared.point.Decision.{Decision}
use Rattle.posixmutex.specs.Objects.{Does, stepped}
use Rattle.posixmutex.specs.Histories.{Legal, opening, held_by}
use Rattle.facts.specs.declared.fact.Fact.{Fact}
use Rattle.facts.specs.declared.fact.Fact.TheVariants.{Point, Reap}
use Rattle.facts.specs.declared.fact.Line.{Line}
use Rattle.facts.specs.Facts.{thread_of, decision_of}
use Rattle.facts.specs.Chances.{MayTimeOut, TimeLimitsHaveReasons, no_chances}
use Rattle.facts.specs.Orders.{Later, Each, Orderly}
use Rattle.protocol.specs.Notes.{line_of}
use Rattle.protocol.specs.Sleepers.{IsAmong}
use Rattle.verdict.specs.Earlier.{told_of, moved, objects_after, chances_behind}
use Rattle.verdict.specs.Fits.{FitsThread, Allows, IsDue, OwnsNothing}
use Rattle.verdict.specs.Explained.{with_decision, decisions}
use Rattle.verdict.specs.Verdicts.{AllFit}
use Rattle.posixmutex.proofs.Steps.{determined}
use Rattle.runs_judged.proofs.Turns.{FitAlong}

-- ---- line by line, the earlier ones newest first

-- these lines in front of those, the last first
abbrev pub onto : List Line → List Line → List Line
onto [] earlier = earlier
onto (l ∷ ls) earlier = onto ls (l ∷ earlier)

pub onto-reverse : (ls earlier : List Line) → onto ls earlier ≡ reverse ls ++ earlier
onto-reverse [] earlier = refl
onto-reverse (l ∷ ls) earlier = onto-reverse ls (l ∷ earlier) ∙ sym (append_assoc (reverse ls) (l ∷ []) earlier) ∙ ap (λ (zs : List Line). zs ++ earlier) (sym (reverse-append (l ∷ []) ls))

pub onto-append : (ls more earlier : List Line) → onto (ls ++ more) earlier ≡ onto more (onto ls earlier)
onto-append [] more earlier = refl
onto-append (l ∷ ls) more earlier = onto-append ls more (l ∷ earlier)

-- from the first line on
pub onto_none : (ls : List Line) → onto ls [] ≡ reverse ls
onto_none ls = onto-reverse ls [] ∙ append-nil (reverse ls)

abbrev pub InOrderOn : List Line → List Line → Type 0
InOrderOn earlier [] = Unit {0}
InOrderOn earlier (l ∷ ls) = Each (λ a. Later a l) earlier × InOrderOn (l ∷ earlier) ls

abbrev pub ThreadsOn : List Line → List Line → Type 0
ThreadsOn earlier [] = Unit {0}
ThreadsOn earlier (l ∷ ls) = FitsThread (told_of (thread_of l.fact) earlier) l.fact × ThreadsOn (l ∷ earlier) ls

abbrev pub AllowedOn : ℕ → List Line → List Line → Type 0
AllowedOn n earlier [] = Unit {0}
AllowedOn n earlier (l ∷ ls) = Allows n (objects_after earlier) (decision_of l.fact) × AllowedOn n (l ∷ earlier) ls

abbrev pub DueOn : List Line → List Line → Type 0
DueOn earlier [] = Unit {0}
DueOn earlier (l ∷ ls) = IsDue earlier l.fact × DueOn (l ∷ earlier) ls

abbrev pub ReapedOn : ℕ → List Line → List Line → Type 0
ReapedOn n earlier [] = Unit {0}
ReapedOn n earlier (l ∷ ls) = OwnsNothing n (objects_after earlier) l.fact × ReapedOn n (l ∷ earlier) ls

all_on : (n : ℕ) (earlier ls : List Line) → AllFit n earlier → InOrderOn earlier ls → ThreadsOn earlier ls → AllowedOn n earlier ls → DueOn earlier ls → ReapedOn n earlier ls → AllFit n (onto ls earlier)
all_on n earlier [] fit order threads allowed due reaped = fit
all_on n earlier (l ∷ ls) fit order threads allowed due reaped =
    all_on n (l ∷ earlier) ls (record { in_order = order.0; of_thread = threads.0; allowed = allowed.0; due = due.0; reaped = reaped.0 }, fit) order.1 threads.1 allowed.1 due.1 reaped.1

pub all_fit : (n : ℕ) (ls : List Line) → InOrderOn [] ls → ThreadsOn [] ls → AllowedOn n [] ls → DueOn [] ls → ReapedOn n [] ls → AllFit n (reverse ls)
all_fit n ls order threads allowed due reaped = subst (AllFit n) (onto_none ls) (all_on n [] ls tt order threads allowed due reaped)

-- ---- order

pub each_map : {P Q : Line → Type 0} (h : (l : Line) → P l → Q l) (ls : List Line) → Each P ls → Each Q ls
each_map h [] all = tt
each_map h (l ∷ ls) all = (h l all.0, each_map h ls all.1)

order_from : (earlier ls : List Line) → Each (λ a. Each (Later a) ls) earlier → Orderly ls → InOrderOn earlier ls
order_from earlier [] before order = tt
order_from earlier (l ∷ ls) before order = (
  each_map {P = λ a. Each (Later a) (l ∷ ls)} {Q = λ a. Later a l} (λ a h. h.0) earlier before,
  order_from (l ∷ earlier) ls (order.0, each_map {P = λ a. Each (Later a) (l ∷ ls)} {Q = λ a. Each (Later a) ls} (λ a h. h.1) earlier before) order.1,
)

pub in_order : (ls : List Line) → Orderly ls → InOrderOn [] ls
in_order ls order = order_from [] ls tt order

-- ---- threads

abbrev pub facts_in : List Line → List Fact
facts_in ls = map (λ l. l.fact) ls

threads_from : (earlier ls : List Line) → ((t : ℕ) → FitAlong t (told_of t earlier) (facts_in ls)) → ThreadsOn earlier ls
threads_from earlier [] fit = tt
threads_from earlier (l ∷ ls) fit = (here (eq-eqb (thread_of l.fact) (thread_of l.fact) refl) (fit (thread_of l.fact)), threads_from (l ∷ earlier) ls (λ t. onward t (thread_of l.fact == t) (fit t)))
  where
    here : (thread_of l.fact == thread_of l.fact) ≡ true → FitAlong (thread_of l.fact) (told_of (thread_of l.fact) earlier) (facts_in (l ∷ ls)) → FitsThread (told_of (thread_of l.fact) earlier) l.fact
    here e h = (subst (λ (b : Bool). MatchBool b (FitsThread (told_of (thread_of l.fact) earlier) l.fact × FitAlong (thread_of l.fact) (l.fact ∷ told_of (thread_of l.fact) earlier) (facts_in ls)) (FitAlong (thread_of l.fact) (told_of (thread_of l.fact) earlier) (facts_in ls))) e h).0

    onward : (t : ℕ) (b : Bool) → MatchBool b (FitsThread (told_of t earlier) l.fact × FitAlong t (l.fact ∷ told_of t earlier) (facts_in ls)) (FitAlong t (told_of t earlier) (facts_in ls)) → FitAlong t (if b then l.fact ∷ told_of t earlier else told_of t earlier) (facts_in ls)
    onward t true h = h.1
    onward t false h = h

pub threads_fit : (ls : List Line) → ((t : ℕ) → FitAlong t [] (facts_in ls)) → ThreadsOn [] ls
threads_fit ls fit = threads_from [] ls fit

-- ---- objects

-- what a legal step leaves
next_is : (n : ℕ) (os next : ℕ → Object) (d : Decision) → Does (held_by d.thread os n) (os d.mutex) d.thread d.operation d.reply (next d.mutex) → ((m : ℕ) → m ≢ d.mutex → next m ≡ os m) → next ≡ moved os (Some d)
next_is n os next d does others = fun_ext (λ m. at m (m == d.mutex) refl)
  where
    at : (m : ℕ) (b : Bool) → (m == d.mutex) ≡ b → next m ≡ (if b then stepped (os m) d.thread d.operation d.reply else os m)
    at m true e =
        let is : m ≡ d.mutex = eqb-true m d.mutex e in
        subst (λ (k : ℕ). next k ≡ stepped (os k) d.thread d.operation d.reply) (sym is) (determined (held_by d.thread os n) (os d.mutex) d.thread d.operation d.reply (next d.mutex) does)
    at m false e = others m (eqb-false m d.mutex e)

module _ (n : ℕ) (new : ℕ → Object) where
  allowed_from : (earlier ls : List Line) → Legal n (objects_after earlier) (decisions ls) new → AllowedOn n earlier ls
  allowed_from earlier [] legal = tt
  allowed_from earlier (l ∷ ls) legal = go (decision_of l.fact) (allowed_from (l ∷ earlier) ls) legal
    where
      go : (d : Option Decision) → (Legal n (moved (objects_after earlier) d) (decisions ls) new → AllowedOn n (l ∷ earlier) ls) → Legal n (objects_after earlier) (with_decision d (decisions ls)) new → Allows n (objects_after earlier) d × AllowedOn n (l ∷ earlier) ls
      go None rest h = (tt, rest h)
      go (Some d) rest h =
          let next = h.1 in
          ((next.0 d.mutex, next.1), rest (subst (λ (os : ℕ → Object). Legal n os (decisions ls) new) (next_is n (objects_after earlier) next.0 d next.1 next.2) next.3))

  -- the objects are as the history leaves them
  ends_from : (earlier ls : List Line) → Legal n (objects_after earlier) (decisions ls) new → (m : ℕ) → new m ≡ objects_after (onto ls earlier) m
  ends_from earlier [] legal = legal
  ends_from earlier (l ∷ ls) legal = go (decision_of l.fact) (ends_from (l ∷ earlier) ls) legal
    where
      go : (d : Option Decision) → (Legal n (moved (objects_after earlier) d) (decisions ls) new → (m : ℕ) → new m ≡ objects_after (onto ls (l ∷ earlier)) m) → Legal n (objects_after earlier) (with_decision d (decisions ls)) new → (m : ℕ) → new m ≡ objects_after (onto ls (l ∷ earlier)) m
      go None rest h = rest h
      go (Some d) rest h =
          let next = h.1 in
          rest (subst (λ (os : ℕ → Object). Legal n os (decisions ls) new) (next_is n (objects_after earlier) next.0 d next.1 next.2) next.3)

pub allowed : (n : ℕ) (new : ℕ → Object) (ls : List Line) → Legal n opening (decisions ls) new → AllowedOn n [] ls
allowed n new ls legal = allowed_from n new [] ls legal

pub ends : (n : ℕ) (new : ℕ → Object) (ls : List Line) → Legal n opening (decisions ls) new → (m : ℕ) → new m ≡ objects_after (onto ls []) m
ends n new ls legal = ends_from n new [] ls legal

-- ---- time limits

due_from : (earlier ls : List Line) → ((t m : ℕ) → TimeLimitsHaveReasons t m (chances_behind t m earlier) (facts_in ls)) → DueOn earlier ls
due_from earlier [] so = tt
due_from earlier (l ∷ ls) so = (here l.fact (λ t m. (so t m).0), due_from (l ∷ earlier) ls (λ t m. (so t m).1))
  where
    here : (f : Fact) → ((t m : ℕ) → MayTimeOut t m (chances_behind t m earlier) f) → IsDue earlier f
    here (Point d) may = may d.thread d.mutex
    here f may = tt

pub due : (ls : List Line) → ((t m : ℕ) → TimeLimitsHaveReasons t m no_chances (facts_in ls)) → DueOn [] ls
due ls so = due_from [] ls so

-- ---- who was reaped

pub reaped_append : (n : ℕ) (earlier ls more : List Line) → ReapedOn n earlier ls → ReapedOn n (onto ls earlier) more → ReapedOn n earlier (ls ++ more)
reaped_append n earlier [] more h k = k
reaped_append n earlier (l ∷ ls) more h k = (h.0, reaped_append n (l ∷ earlier) ls more h.1 k)

-- nobody is reaped by these
pub none_reaped : (n i : ℕ) (earlier : List Line) (fs : List Fact) → ((t : ℕ) → IsAmong (Reap t) fs → ⊥) → ReapedOn n earlier (map (line_of i) fs)
none_reaped n i earlier [] none = tt
none_reaped n i earlier (f ∷ fs) none = (here f (λ t e. none t (inl e)), none_reaped n i (line_of i f ∷ earlier) fs (λ t h. none t (inr h)))
  where
    here : (g : Fact) → ((t : ℕ) → g ≡ Reap t → ⊥) → OwnsNothing n (objects_after earlier) g
    here (Reap t) never = absurd (never t refl)
    here g never = tt
