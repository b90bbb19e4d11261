-- Cutting a text at a byte.
use Rattle.std.proofs.Common.{◌≡◌, ℕ, ◌<◌, ◌≤◌, ◌==◌, Bool, false, List, [], ◌∷◌, length, Option, Some, None, MatchOption, Bor, eqb, refl, arith}
use Rattle.std.specs.List.{slice_split, position_or_len, before_first, after_first}
use Rattle.std.proofs.lemmas.List.Splits.{slice_split_none, slice_split_first, length-slice_split}
use Rattle.std.proofs.lemmas.List.Elements.{All-from_get_or}
use Rattle.std.proofs.lemmas.List.Sums.{fails_before_first}
use Rattle.std.proofs.lemmas.Str.Pattern.{split_once_first, IsSplitOnceResult}

-- no element passes
pub none_passes : {X : Type 0} (p : X → Bool) (xs : List X) → position_or_len p xs ≡ length xs → slice_split p xs ≡ xs ∷ []
none_passes p [] e = refl
none_passes p (x ∷ xs) e = slice_split_none p (x ∷ xs) (All-from_get_or (λ y. p y ≡ false) (x ∷ xs) x (λ i h. fails_before_first p (x ∷ xs) i x (omega (arith, e, h))))

pub cut_parts : (c : ℕ) (bs : List ℕ) (r : Option (Bor (List ℕ) × Bor (List ℕ))) → IsSplitOnceResult c bs r → c < 128
    → MatchOption r (slice_split (λ b. b == c) bs ≡ bs ∷ []) (λ x. slice_split (λ b. b == c) bs ≡ x.0.now ∷ slice_split (λ b. b == c) x.1.now)
cut_parts c bs r h lt = by_cases r (split_once_first c bs r h lt) where
  by_cases : (r : Option (Bor (List ℕ) × Bor (List ℕ)))
      → MatchOption r (position_or_len (λ b. eqb b c) bs ≡ length bs) (λ x. (position_or_len (λ b. eqb b c) bs < length bs) × (x.0.now ≡ before_first (λ b. eqb b c) bs) × (x.1.now ≡ after_first (λ b. eqb b c) bs))
      → MatchOption r (slice_split (λ b. b == c) bs ≡ bs ∷ []) (λ x. slice_split (λ b. b == c) bs ≡ x.0.now ∷ slice_split (λ b. b == c) x.1.now)
  by_cases None e = none_passes (λ b. b == c) bs e
  by_cases (Some x) e = rw (e.1, e.2) (slice_split_first (λ b. b == c) bs 0 e.0)

pub one_or_more : (p : ℕ → Bool) (bs : List ℕ) → 1 ≤ length (slice_split p bs)
one_or_more p bs = omega (arith, length-slice_split p bs)

pub seven_or_more : (p : ℕ → Bool) (a b c d e f t0 t1 t2 t3 t4 t5 t6 : List ℕ) → slice_split p t0 ≡ a ∷ slice_split p t1 → slice_split p t1 ≡ b ∷ slice_split p t2 → slice_split p t2 ≡ c ∷ slice_split p t3
    → slice_split p t3 ≡ d ∷ slice_split p t4 → slice_split p t4 ≡ e ∷ slice_split p t5 → slice_split p t5 ≡ f ∷ slice_split p t6 → 6 < length (slice_split p t0)
seven_or_more p a b c d e f t0 t1 t2 t3 t4 t5 t6 e0 e1 e2 e3 e4 e5 = rw (e0, e1, e2, e3, e4, e5) (omega (arith, one_or_more p t6))
