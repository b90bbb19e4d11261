-- Words and numbers as texts spell them.
use Rattle.std.proofs.Common.{◌≡◌, ◌≢◌, ℕ, ◌==◌, Bool, true, false, List, [], ◌∷◌, None, refl, ap, arith}
use Rattle.std.specs.Prelude.{if◌then◌else◌}
use Rattle.std.proofs.lemmas.Bool.Decides.{nat_tests}
use Rattle.histories.specs.Forms.{number_of, numbered}

-- ---- letters

pub unlettered : (c : ℕ) (w : List ℕ) → ((rest : List ℕ) → w ≢ c ∷ rest) → numbered c w ≡ None
unlettered c [] h = refl
unlettered c (b ∷ bs) h = by_cases (b == c) refl where
  by_cases : (t : Bool) → (b == c) ≡ t → (if t then number_of bs else None) ≡ None
  by_cases false e = refl
  by_cases true e = absurd (h bs (ap (λ k. k ∷ bs) (grind (arith, nat_tests))))

pub lettered : (c : ℕ) (w rest : List ℕ) → w ≡ c ∷ rest → numbered c w ≡ number_of rest
lettered c w rest e = rw e (same c rest) where
  same : (c : ℕ) (rest : List ℕ) → numbered c (c ∷ rest) ≡ number_of rest
  same c rest = let t : (c == c) ≡ true = grind (arith, nat_tests) in rw t refl
