-- What comes after a letter.
use Rattle.std.proofs.Common.{◌≡◌, ◌≢◌, ℕ, ◌==◌, Bool, true, false, List, [], ◌∷◌, Option, Some, None, option_map, MatchOption, Bor, if◌then◌else◌, refl, sym, ap, ◌∙◌, arith}
use Rattle.std.proofs.lemmas.Bool.Decides.{nat_tests}
use Rattle.explain.specs.Advised.{behind}

not_behind : (letter : ℕ) (w : List ℕ) → ((rest : List ℕ) → w ≢ letter ∷ rest) → behind letter w ≡ None
not_behind letter [] other = refl
not_behind letter (b ∷ bs) other = by_cases (b == letter) refl where
  by_cases : (t : Bool) → (b == letter) ≡ t → (if t then Some bs else None) ≡ None
  by_cases false e = refl
  by_cases true e = absurd (other bs (ap (λ k. k ∷ bs) (grind (arith, nat_tests))))

is_behind : (letter : ℕ) (rest : List ℕ) → behind letter (letter ∷ rest) ≡ Some rest
is_behind letter rest = let same : (letter == letter) ≡ true = grind (arith, nat_tests) in ap (λ (b : Bool). if b then Some rest else None) same

pub behind_is : (letter : ℕ) (w : List ℕ) (r : Option (Bor (List ℕ))) → MatchOption r ((rest : List ℕ)
    → w ≢ letter ∷ rest) (λ x. w ≡ letter ∷ x.now) → option_map (λ x. x.now) r ≡ behind letter w
behind_is letter w None h = sym (not_behind letter w h)
behind_is letter w (Some x) h = sym (ap (behind letter) h ∙ is_behind letter x.now)
