-- Each picture has room for its names.
use Rattle.std.proofs.Common.{◌≡◌, ℕ, zero, suc, ◌<◌, ◌≤◌, ◌||◌, Bool, true, false, List, [], ◌∷◌, length, max, refl, arith, inl, inr, ◌⊎◌, sym}
use Rattle.std.specs.Prelude.{nat_le, slice_index_or}
use Rattle.std.proofs.lemmas.Bool.{cases_lt}
use Rattle.std.proofs.lemmas.Bool.Decides.{nat_tests}
use Rattle.picture.specs.declared.bands.Bands.{Bands}
use Rattle.picture.specs.Bands.{has_long, least_letters, shown}
use Rattle.picture.specs.Laws.{PicturesHaveRoomForNames}
use Rattle.picture.specs.Names.{longest_of}

-- the longest is as long as what it begins with
pub at_least : (most : ℕ) (names : List (List ℕ)) → most ≤ longest_of most names
at_least most [] = omega arith
at_least most (n ∷ ns) = let rest = at_least (max most (length n)) ns in omega (arith, rest)

-- and as each name
as_long : (most : ℕ) (names : List (List ℕ)) (i : ℕ) (d : List ℕ) → i < length names → length (slice_index_or names i d) ≤ longest_of most names
as_long most [] i d lt = absurd (omega (arith, lt))
as_long most (n ∷ ns) zero d lt = let rest = at_least (max most (length n)) ns in omega (arith, rest)
as_long most (n ∷ ns) (suc i) d lt = as_long (max most (length n)) ns i d (omega (arith, lt))

-- a mutex of one of these bands has such a number
found : (ms : List ℕ) (n i : ℕ) → i < n → 100 ≤ slice_index_or ms i 0 → has_long ms n ≡ true
found ms zero i lt far = absurd (omega (arith, lt))
found ms (suc n) i lt far = elim (cases_lt i n) [
  | inl less ↦ either (has_long ms n) (nat_le 100 (slice_index_or ms n 0)) (inl (found ms n i less far))
  | inr le ↦
      let same : i ≡ n = omega (arith, le, lt) in
      either (has_long ms n) (nat_le 100 (slice_index_or ms n 0)) (inr (let there : 100 ≤ slice_index_or ms n 0 = rw (sym same) far in grind (arith, nat_tests, there)))
]
  where
    either : (a b : Bool) → (a ≡ true) ⊎ (b ≡ true) → (a || b) ≡ true
    either true b e = refl
    either false b (inl e) = absurd cc
    either false b (inr e) = e

pub roomy : PicturesHaveRoomForNames
roomy room n threads mutexes ls names = record {
  threads = λ i d lt.
      let a = as_long least n.threads i d lt in
      let b = at_least (longest_of least n.threads) n.mutexes in
      let c = at_least (longest_of (longest_of least n.threads) n.mutexes) n.conditions in
      let e = (names.threads i d lt).1 in
      omega (arith, a, b, c, e);
  mutexes = λ i d lt.
      let b = as_long (longest_of least n.threads) n.mutexes i d lt in
      let c = at_least (longest_of (longest_of least n.threads) n.mutexes) n.conditions in
      let e = (names.mutexes i d lt).1 in
      omega (arith, b, c, e);
  conditions = λ i d lt.
      let c = as_long (longest_of (longest_of least n.threads) n.mutexes) n.conditions i d lt in
      let e = (names.conditions i d lt).1 in
      omega (arith, c, e);
  numbers = λ i lt far.
      let has = found b.mutexes b.count i lt far in
      let four : least ≡ 4 = rw has refl in
      let x = at_least least n.threads in
      let y = at_least (longest_of least n.threads) n.mutexes in
      let z = at_least (longest_of (longest_of least n.threads) n.mutexes) n.conditions in
      omega (arith, x, y, z, four);
  few = omega arith;
}
  where
    b : Bands
    b = shown room mutexes ls

    least : ℕ
    least = least_letters b
