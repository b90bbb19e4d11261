-- Which mutexes have bands.
use Rattle.std.proofs.Common.{◌≡◌, ◌≢◌, ◌⊎◌, ℕ, zero, suc, ◌+◌, ◌<◌, ◌≤◌, ◌==◌, Bool, true, false, Option, Some, None, IsSomeAnd, List, [], ◌∷◌, length, refl, sym, ap, subst, ◌∙◌, arith, inl, inr, Any, eqb-true, get_or, set}
use Rattle.std.specs.Prelude.{nat_le, slice_index_or, if◌then◌else◌}
use Rattle.std.proofs.lemmas.Bool.{cases_lt}
use Rattle.std.proofs.lemmas.Bool.Decides.{nat_tests}
use Rattle.std.proofs.lemmas.List.{get_or-set_other, get_or-set_same, length-set}
use Rattle.posixmutex.specs.declared.point.Decision.{Decision}
use Rattle.facts.specs.declared.fact.Line.{Line}
use Rattle.facts.specs.Facts.{decision_of}
use Rattle.picture.specs.declared.bands.Bands.{Bands}
use Rattle.picture.specs.Bands.{band_in, band_of, first_bands, mutex_at, one_more, used, with_decision, with_mutex, with_new}
use Rattle.picture.specs.Laws.{AreShown, UsedMutexesHaveBands, Uses}

-- ---- which band a mutex has

pub record IsBand (ms : List ℕ) (m n i : ℕ) : Type 0 where
  pub inside : i < n
  pub its : slice_index_or ms i 0 ≡ m

pub band_is : (ms : List ℕ) (m n i : ℕ) → band_in ms m n ≡ Some i → IsBand ms m n i
band_is ms m zero i is = absurd cc
band_is ms m (suc n) i is = go (slice_index_or ms n 0 == m) refl is (λ e. band_is ms m n i e)
  where
    go : (b : Bool) → (slice_index_or ms n 0 == m) ≡ b → (if b then Some n else band_in ms m n) ≡ Some i → (band_in ms m n ≡ Some i → IsBand ms m n i) → IsBand ms m (suc n) i
    go true same at below =
        let here : n ≡ i = cc in
        record { inside = omega (arith, here); its = ap (λ k. get_or ms k 0) (sym here) ∙ eqb-true (slice_index_or ms n 0) m same }
    go false other at below = let p = below at in record { inside = (let lt = p.inside in omega (arith, lt)); its = p.its }

no_band : (ms : List ℕ) (m n : ℕ) → band_in ms m n ≡ None → (i : ℕ) → i < n → slice_index_or ms i 0 ≢ m
no_band ms m zero is i lt = absurd (omega (arith, lt))
no_band ms m (suc n) is i lt = go (slice_index_or ms n 0 == m) refl is (λ e less. no_band ms m n e i less)
  where
    go : (b : Bool) → (slice_index_or ms n 0 == m) ≡ b → (if b then Some n else band_in ms m n) ≡ None → (band_in ms m n ≡ None → i < n → slice_index_or ms i 0 ≢ m) → slice_index_or ms i 0 ≢ m
    go true same at below = absurd cc
    go false other at below = elim (cases_lt i n) [
      | inl less ↦ below at less
      | inr le ↦ λ e.
          let here : i ≡ n = omega (arith, le, lt) in
          let there : slice_index_or ms n 0 ≡ m = ap (λ k. get_or ms k 0) (sym here) ∙ e in
          let equal : (slice_index_or ms n 0 == m) ≡ true = grind (arith, nat_tests, there) in
          let both : true ≡ false = sym equal ∙ other in
          cc
    ]

-- bands of different mutexes, in a list that has room for all
record Apart (b : Bands) : Type 0 where
  pub room : length b.mutexes ≡ 16
  pub apart : (i j : ℕ) → i < b.count → j < b.count → mutex_at b i ≡ mutex_at b j → i ≡ j

found : (b : Bands) → Apart b → (i : ℕ) → i < b.count → (r : Option ℕ) → band_of b (mutex_at b i) ≡ r → r ≡ Some i
found b a i lt None is = absurd (no_band b.mutexes (mutex_at b i) b.count is i lt refl)
found b a i lt (Some j) is =
    let p = band_is b.mutexes (mutex_at b i) b.count j is in
    ap (λ k. Some k) (a.apart j i p.inside lt p.its)

-- ---- one line

-- after one line, or several: bands that there were are still there, and no others but those of mutexes that were used; and a mutex that was used has a band, where there is room
record Goes (room : ℕ) (b c : Bands) (IsUsed : ℕ → Type 0) : Type 0 where
  pub apart : Apart c
  pub few : c.count ≤ room
  pub more : b.count ≤ c.count
  pub keeps : (i : ℕ) → i < b.count → mutex_at c i ≡ mutex_at b i
  pub named : (i : ℕ) → i < c.count → (i < b.count) ⊎ IsUsed (mutex_at c i)
  pub full : (m : ℕ) → IsUsed m → band_of c m ≡ None → c.count ≡ room

stays : (room : ℕ) (b : Bands) (IsUsed : ℕ → Type 0) → Apart b → b.count ≤ room → ((m : ℕ) → IsUsed m → band_of b m ≡ None → b.count ≡ room) → Goes room b b IsUsed
stays room b IsUsed apart few full = record { apart = apart; few = few; more = omega arith; keeps = λ i lt. refl; named = λ i lt. inl lt; full = full }

grows : (room : ℕ) (b : Bands) (m : ℕ) → room ≤ 16 → Apart b → b.count < room → band_of b m ≡ None → Goes room b (one_more b m) (λ k. m ≡ k)
grows room b m most apart lt is = record {
  apart = record { room = length-set b.mutexes b.count m ∙ apart.room; apart = different };
  few = omega (arith, lt);
  more = omega arith;
  keeps = before;
  named = λ i less. elim (cases_lt i b.count) [
    | inl old ↦ inl old
    | inr le ↦ inr (sym (at_end i (omega (arith, le, less))))
  ];
  full = λ k same none. absurd (no_band (one_more b m).mutexes k (b.count + 1) none b.count (omega arith) (at_end b.count refl ∙ same));
}
  where
    inside : b.count < length b.mutexes
    inside = let sixteen = apart.room in omega (arith, sixteen, lt, most)

    before : (i : ℕ) → i < b.count → mutex_at (one_more b m) i ≡ mutex_at b i
    before i less = get_or-set_other b.mutexes b.count i m 0 (λ e. omega (arith, e, less))

    at_end : (i : ℕ) → i ≡ b.count → mutex_at (one_more b m) i ≡ m
    at_end i e = ap (λ k. get_or (set b.mutexes b.count m) k 0) e ∙ get_or-set_same b.mutexes b.count m 0 inside

    none_before : (i : ℕ) → i < b.count → mutex_at b i ≢ m
    none_before = no_band b.mutexes m b.count is

    different : (i j : ℕ) → i < b.count + 1 → j < b.count + 1 → mutex_at (one_more b m) i ≡ mutex_at (one_more b m) j → i ≡ j
    different i j li lj same = elim (cases_lt i b.count) [
      | inl oi ↦ elim (cases_lt j b.count) [
        | inl oj ↦ apart.apart i j oi oj (sym (before i oi) ∙ same ∙ before j oj)
        | inr nj ↦ absurd (none_before i oi (sym (before i oi) ∙ same ∙ at_end j (omega (arith, nj, lj))))
      ]
      | inr ni ↦ elim (cases_lt j b.count) [
        | inl oj ↦ absurd (none_before j oj (sym (before j oj) ∙ sym same ∙ at_end i (omega (arith, ni, li))))
        | inr nj ↦ omega (arith, ni, nj, li, lj)
      ]
    ]

-- a mutex that is used
with_one : (room : ℕ) (b : Bands) (m : ℕ) → room ≤ 16 → Apart b → b.count ≤ room → Goes room b (with_mutex room b m) (λ k. m ≡ k)
with_one room b m most apart few = go (band_of b m) refl
  where
    Used : ℕ → Type 0
    Used k = m ≡ k

    new : (t : Bool) → nat_le room b.count ≡ t → band_of b m ≡ None → Goes room b (if t then b else one_more b m) (λ k. m ≡ k)
    new true all none = stays room b (λ k. m ≡ k) apart few (λ k same is. grind (arith, nat_tests, all, few))
    new false open_there none = grows room b m most apart (grind (arith, nat_tests, open_there)) none

    go : (r : Option ℕ) → band_of b m ≡ r → Goes room b (with_new room b m r) (λ k. m ≡ k)
    go (Some i) is = stays room b (λ k. m ≡ k) apart few (λ k same none. absurd (let both : Some i ≡ None = sym is ∙ ap (band_of b) same ∙ none in cc))
    go None is = new (nat_le room b.count) refl is

with_line : (room : ℕ) (b : Bands) (d : Option Decision) → room ≤ 16 → Apart b → b.count ≤ room → Goes room b (with_decision room b d) (λ k. IsSomeAnd d (λ (e : Decision). e.mutex ≡ k))
with_line room b None most apart few = stays room b (λ k. IsSomeAnd None (λ (e : Decision). e.mutex ≡ k)) apart few (λ k nobody is. absurd nobody)
with_line room b (Some d) most apart few = with_one room b d.mutex most apart few

-- ---- all lines

-- a mutex that has a band keeps it
still : (room : ℕ) (b c : Bands) (P : ℕ → Type 0) → Goes room b c P → (m : ℕ) → band_of c m ≡ None → (r : Option ℕ) → band_of b m ≡ r → r ≡ None
still room b c P g m none None is = refl
still room b c P g m none (Some i) is =
    let p = band_is b.mutexes m b.count i is in
    absurd (no_band c.mutexes m c.count none i (let lt = p.inside in let more = g.more in omega (arith, lt, more)) (g.keeps i p.inside ∙ p.its))

first_or_later : (m : ℕ) (l : Line) (ls : List Line) → Any (Uses m) (l ∷ ls) → Uses m l ⊎ Any (Uses m) ls
first_or_later m l ls (zero, x, lt, same, is) = inl (subst (Uses m) (sym same) is)
first_or_later m l ls (suc k, x, lt, same, is) = inr (k, x, omega (arith, lt), same, is)

later : (m : ℕ) (l : Line) (ls : List Line) → Any (Uses m) ls → Any (Uses m) (l ∷ ls)
later m l ls (k, x, lt, same, is) = (suc k, x, omega (arith, lt), same, is)

one_then : (room : ℕ) (b next c : Bands) (l : Line) (ls : List Line) → Goes room b next (λ k. IsSomeAnd (decision_of l.fact) (λ (e : Decision). e.mutex ≡ k)) → Goes room next c (λ m. Any (Uses m) ls) → Goes room b c (λ m. Any (Uses m) (l ∷ ls))
one_then room b next c l ls one rest = record {
  apart = rest.apart;
  few = rest.few;
  more = (let x = one.more in let y = rest.more in omega (arith, x, y));
  keeps = λ i lt. rest.keeps i (let x = one.more in omega (arith, lt, x)) ∙ one.keeps i lt;
  named = λ i lt. elim (rest.named i lt) [
    | inl before ↦ elim (one.named i before) [
      | inl there ↦ inl there
      | inr it ↦ inr (subst (λ (m : ℕ). Any (Uses m) (l ∷ ls)) (sym (rest.keeps i before)) (0, l, omega arith, refl, it))
    ]
    | inr it ↦ inr (later _ l ls it)
  ];
  full = λ m it none. elim (first_or_later m l ls it) [
    | inl here ↦
        let was = still room next c (λ k. Any (Uses k) ls) rest m none (band_of next m) refl in
        let x = one.full m here was in
        let y = rest.more in
        let z = rest.few in
        omega (arith, x, y, z)
    | inr there ↦ rest.full m there none
  ];
}

all_lines : (room : ℕ) (b : Bands) (ls : List Line) → room ≤ 16 → Apart b → b.count ≤ room → Goes room b (used room b ls) (λ m. Any (Uses m) ls)
all_lines room b [] most apart few = stays room b (λ m. Any (Uses m) []) apart few (λ m nobody is. absurd (let lt = nobody.2 in omega (arith, lt)))
all_lines room b (l ∷ ls) most apart few =
    let next = with_decision room b (decision_of l.fact) in
    let one = with_line room b (decision_of l.fact) most apart few in
    one_then room b next (used room next ls) l ls one (all_lines room next ls most one.apart one.few)

-- ---- the first mutexes

first_at : (n i : ℕ) → i < 16 → mutex_at (first_bands n) i ≡ i
first_at n zero lt = refl
first_at n (suc zero) lt = refl
first_at n (suc (suc zero)) lt = refl
first_at n (suc (suc (suc zero))) lt = refl
first_at n (suc (suc (suc (suc zero)))) lt = refl
first_at n (suc (suc (suc (suc (suc zero))))) lt = refl
first_at n (suc (suc (suc (suc (suc (suc zero)))))) lt = refl
first_at n (suc (suc (suc (suc (suc (suc (suc zero))))))) lt = refl
first_at n (suc (suc (suc (suc (suc (suc (suc (suc zero)))))))) lt = refl
first_at n (suc (suc (suc (suc (suc (suc (suc (suc (suc zero))))))))) lt = refl
first_at n (suc (suc (suc (suc (suc (suc (suc (suc (suc (suc zero)))))))))) lt = refl
first_at n (suc (suc (suc (suc (suc (suc (suc (suc (suc (suc (suc zero))))))))))) lt = refl
first_at n (suc (suc (suc (suc (suc (suc (suc (suc (suc (suc (suc (suc zero)))))))))))) lt = refl
first_at n (suc (suc (suc (suc (suc (suc (suc (suc (suc (suc (suc (suc (suc zero))))))))))))) lt = refl
first_at n (suc (suc (suc (suc (suc (suc (suc (suc (suc (suc (suc (suc (suc (suc zero)))))))))))))) lt = refl
first_at n (suc (suc (suc (suc (suc (suc (suc (suc (suc (suc (suc (suc (suc (suc (suc zero))))))))))))))) lt = refl
first_at n (suc (suc (suc (suc (suc (suc (suc (suc (suc (suc (suc (suc (suc (suc (suc (suc i)))))))))))))))) lt = absurd (omega (arith, lt))

first_apart : (n : ℕ) → n ≤ 16 → Apart (first_bands n)
first_apart n le = record {
  room = refl;
  apart = λ i j li lj same. sym (first_at n i (omega (arith, li, le))) ∙ same ∙ first_at n j (omega (arith, lj, le));
}

-- ---- all bands

pub used_have : UsedMutexesHaveBands
used_have room mutexes ls most = go (nat_le mutexes room) refl
  where
    go : (t : Bool) → nat_le mutexes room ≡ t → AreShown room mutexes ls (if t then first_bands mutexes else used room (first_bands 0) ls)
    go true fits =
        let le : mutexes ≤ room = grind (arith, nat_tests, fits) in
        let apart = first_apart mutexes (omega (arith, le, most)) in
        record {
          few = le;
          once = λ i lt. found (first_bands mutexes) apart i lt _ refl;
          all = λ all m lt. ap (band_of (first_bands mutexes)) (sym (first_at mutexes m (omega (arith, lt, le, most)))) ∙ found (first_bands mutexes) apart m lt _ refl;
          named = λ more. absurd (omega (arith, more, le));
          full = λ more. absurd (omega (arith, more, le));
        }
    go false wide =
        let more : room < mutexes = grind (arith, nat_tests, wide) in
        let g = all_lines room (first_bands 0) ls most (first_apart 0 (omega arith)) (omega arith) in
        let b = used room (first_bands 0) ls in
        record {
          few = g.few;
          once = λ i lt. found b g.apart i lt _ refl;
          all = λ le. absurd (omega (arith, le, more));
          named = λ over i lt. elim (g.named i lt) [
            | inl none ↦ absurd (omega (arith, none))
            | inr it ↦ it
          ];
          full = λ over. g.full;
        }
