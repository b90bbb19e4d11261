-- How far apart heads and mutexes lie.
use Rattle.std.proofs.Common.{◌≡◌, ◌≢◌, inl, inr, ℕ, ◌+◌, ◌-◌, ◌*◌, ◌<◌, ◌≤◌, Bool, true, false, refl, subst, arith}
use Rattle.std.specs.Prelude.{nat_lt}
use Rattle.std.proofs.lemmas.Bool.Decides.{nat_tests}
use Rattle.cachelines.specs.Spread.{slot_of}
use Rattle.memorymap.specs.Layouts.{head_place, cell_place}
use Rattle.ruledwords.specs.Apart.{HeadsAndMutexesLieApart, LieApart}

-- word i of group a
in_group : (a i : ℕ) → i < 3 → slot_of (1 + 3 * a + i) ≡ 10 * (a + 1) + i
in_group a i few = omega arith

lower : (a b i j : ℕ) → a < b → i < 3 → j < 3 → slot_of (1 + 3 * a + i) + 8 ≤ slot_of (1 + 3 * b + j)
lower a b i j less few few' = let x = in_group a i few in let y = in_group b j few' in omega (arith, x, y, less, few, few')

of_groups : (a b i j : ℕ) → a ≢ b → i < 3 → j < 3 → LieApart (1 + 3 * a + i) (1 + 3 * b + j)
of_groups a b i j apart few few' = go (nat_lt a b) refl where
  go : (z : Bool) → nat_lt a b ≡ z → LieApart (1 + 3 * a + i) (1 + 3 * b + j)
  go true is = inl (lower a b i j (grind (arith, nat_tests)) few few')
  go false is = let not_less : b ≤ a = grind (arith, nat_tests) in inr (lower b a j i (omega (arith, apart, not_less)) few' few)

pub lie_apart : HeadsAndMutexesLieApart
lie_apart k = record {
  heads = λ t u i j first first' apart few few'. of_groups (t - 1) (u - 1) i j (λ same. apart (omega (arith, same, first, first'))) few few';
  mutexes = λ m l i j apart few few'. subst (λ (z : ℕ × ℕ). LieApart (z.0 + i) (z.1 + j)) (λ y. (cell m y, cell l y)) (of_groups (k.threads + m) (k.threads + l) i j (λ same. apart (omega (arith, same))) few few');
  both = λ t m i j first last few few'. subst (λ (z : ℕ). LieApart (head_place t + i) (z + j)) (cell m) (of_groups (t - 1) (k.threads + m) i j (λ same. absurd (omega (arith, same, first, last))) few few');
} where
  cell : (m : ℕ) → 1 + 3 * (k.threads + m) ≡ cell_place k m
  cell m = omega arith
