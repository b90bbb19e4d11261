-- What fits line by line tells of a time limit only for a reason.
use Rattle.std.proofs.Common.{◌≡◌, ℕ, true, List, [], ◌∷◌, ◌++◌, refl, sym, ap, subst, ◌∙◌}
use Rattle.std.specs.Prelude.{map, reverse}
use Rattle.std.proofs.lemmas.List.{reverse-append}
use Rattle.facts.specs.declared.fact.Fact.{Fact}
use Rattle.facts.specs.declared.fact.Fact.TheVariants.{Point}
use Rattle.facts.specs.declared.fact.Line.{Line}
use Rattle.facts.specs.Chances.{Chances, MayTimeOut, TimeLimitsHaveReasons, chances_after, chances_next, no_chances}
use Rattle.verdict.specs.Earlier.{chances_behind}
use Rattle.verdict.specs.Explained.{facts_of}
use Rattle.verdict.specs.Fits.{IsDue}
use Rattle.verdict.specs.Verdicts.{AllFit}

-- one fact more, after the others
after_more : (t m : ℕ) (c : Chances) (fs : List Fact) (f : Fact) → chances_after t m c (fs ++ f ∷ []) ≡ chances_next t m (chances_after t m c fs) f
after_more t m c [] f = refl
after_more t m c (g ∷ fs) f = after_more t m (chances_next t m c g) fs f

reasons_more : (t m : ℕ) (c : Chances) (fs : List Fact) (f : Fact) → TimeLimitsHaveReasons t m c fs → MayTimeOut t m (chances_after t m c fs) f → TimeLimitsHaveReasons t m c (fs ++ f ∷ [])
reasons_more t m c [] f so may = (may, tt)
reasons_more t m c (g ∷ fs) f so may = (so.0, reasons_more t m (chances_next t m c g) fs f so.1 may)

facts_more : (ls : List Line) (e : Line) → facts_of (ls ++ e ∷ []) ≡ facts_of ls ++ e.fact ∷ []
facts_more [] e = refl
facts_more (l ∷ ls) e = ap (λ fs. l.fact ∷ fs) (facts_more ls e)

-- the lines in their order
in_turn : (e : Line) (es : List Line) → facts_of (reverse (e ∷ es)) ≡ facts_of (reverse es) ++ e.fact ∷ []
in_turn e es = ap facts_of (reverse-append (e ∷ []) es) ∙ facts_more (reverse es) e

-- the newest first, or in their order
same_chances : (t m : ℕ) (told : List Line) → chances_after t m no_chances (facts_of (reverse told)) ≡ chances_behind t m told
same_chances t m [] = refl
same_chances t m (e ∷ es) =
    ap (chances_after t m no_chances) (in_turn e es) ∙ after_more t m no_chances (facts_of (reverse es)) e.fact ∙ ap (λ c. chances_next t m c e.fact) (same_chances t m es)

-- a point of the thread on the mutex
of_both : (t m : ℕ) (es : List Line) (f : Fact) → IsDue es f → MayTimeOut t m (chances_behind t m es) f
of_both t m es (Point d) due = λ by on late.
    subst (λ u. (chances_behind u m es).waited ≡ true) by (subst (λ k. (chances_behind d.thread k es).waited ≡ true) on (due refl refl late))
of_both t m es f due = tt

pub time_limits : (n t m : ℕ) (told : List Line) → AllFit n told → TimeLimitsHaveReasons t m no_chances (facts_of (reverse told))
time_limits n t m [] fit = tt
time_limits n t m (e ∷ es) fit =
    subst (TimeLimitsHaveReasons t m no_chances) (sym (in_turn e es))
    (reasons_more t m no_chances (facts_of (reverse es)) e.fact (time_limits n t m es fit.1)
    (subst (λ c. MayTimeOut t m c e.fact) (sym (same_chances t m es)) (of_both t m es e.fact fit.0.due)))
