-- Where no thread lives again, each has one life.
use Rattle.std.proofs.Common.{◌≡◌, ℕ, ◌==◌, ◌&&◌, Bool, true, false, List, [], ◌∷◌, ◌++◌, refl, ap, subst, ◌∙◌}
use Rattle.std.specs.Prelude.{if◌then◌else◌, reverse}
use Rattle.facts.specs.declared.fact.Fact.{Fact}
use Rattle.facts.specs.declared.fact.Fact.TheVariants.{Begin, Kill, Point, Death, Sleep, Wake, Move, Return, Reap, Renew}
use Rattle.facts.specs.declared.fact.Line.{Line}
use Rattle.facts.specs.Facts.{thread_of, is_renewal}
use Rattle.facts.specs.Lives.{is_of_call, own, Life, Lives, Last, Earlier}
use Rattle.facts.specs.Orders.{Each}
use Rattle.verdict.specs.Explained.{is_renewing, renewed, in_this_life, Buries}
use Rattle.verdict.specs.Laws.{WithoutRenewalsAsBefore}
use Rattle.verdict.proofs.Burials.{each_reverse}

-- none of these facts is a renewal
abbrev Unrenewed : List Fact → Type 0
Unrenewed [] = Unit {0}
Unrenewed (f ∷ fs) = (is_renewal f ≡ false) × Unrenewed fs

own_unrenewed : (t : ℕ) (ls : List Line) → Each (λ e. is_renewal e.fact ≡ false) ls → Unrenewed (own t ls)
own_unrenewed t [] none = tt
own_unrenewed t (l ∷ ls) none = go (is_of_call l.fact && (thread_of l.fact == t)) (own_unrenewed t ls none.1) where
  go : (b : Bool) → Unrenewed (own t ls) → Unrenewed (if b then l.fact ∷ own t ls else own t ls)
  go true rest = (none.0, rest)
  go false rest = rest

no_renewal : (t : ℕ) (xs ys : List Fact) → Unrenewed (xs ++ Renew t ∷ ys) → ⊥
no_renewal t [] ys none = let e : true ≡ false = none.0 in absurd cc
no_renewal t (x ∷ xs) ys none = no_renewal t xs ys none.1

one_life : (t : ℕ) (fs : List Fact) → Lives t fs → Unrenewed fs → Life t fs
one_life t fs (Last life l) none = l
one_life t fs (Earlier life later l ends more) none = absurd (no_renewal t life later none)

not_renewing : (t : ℕ) (f : Fact) → is_renewal f ≡ false → is_renewing t f ≡ false
not_renewing t (Begin u c) is = refl
not_renewing t (Kill u) is = refl
not_renewing t (Point d) is = refl
not_renewing t (Death u m) is = refl
not_renewing t (Sleep u q) is = refl
not_renewing t (Wake u) is = refl
not_renewing t (Move u m) is = refl
not_renewing t (Return u x) is = refl
not_renewing t (Reap u) is = refl
not_renewing t (Renew u) is = absurd cc

not_renewed : (t : ℕ) (es : List Line) → Each (λ e. is_renewal e.fact ≡ false) es → renewed t es ≡ false
not_renewed t [] none = refl
not_renewed t (e ∷ es) none = ap (λ b. if b then true else renewed t es) (not_renewing t e.fact none.0) ∙ not_renewed t es none.1

-- all of them are of this life
all_of_it : (t : ℕ) (es : List Line) → Each (λ e. is_renewal e.fact ≡ false) es → in_this_life t es ≡ es
all_of_it t [] none = refl
all_of_it t (e ∷ es) none = ap (λ b. if b then in_this_life t es else e ∷ es) (not_renewed t (e ∷ es) none)

newer_of : (newer : List Line) (rest : List Line) → Each (λ e. is_renewal e.fact ≡ false) (newer ++ rest) → Each (λ e. is_renewal e.fact ≡ false) newer
newer_of [] rest none = tt
newer_of (e ∷ newer) rest none = (none.0, newer_of newer rest none.1)

pub lives_once : WithoutRenewalsAsBefore
lives_once n told x none = record {
  one_life = λ t. one_life t (own t (reverse told)) (x.lives t) (own_unrenewed t (reverse told) (each_reverse (λ e. is_renewal e.fact ≡ false) told none));
  deaths_told = λ newer earlier i t all.
      let d = x.deaths_told newer earlier i t all in
      let tame = newer_of newer ((record { event = i; fact = Kill t }) ∷ earlier) (subst (Each (λ e. is_renewal e.fact ≡ false)) all none) in
      (d.0, d.1, subst (Buries t n d.0) (all_of_it t newer tame) d.2);
}
