-- What a word says after each change of its bits.
use Rattle.std.proofs.Common.{◌≡◌, ◌≢◌, ◌↔◌, ℕ, zero, suc, ◌+◌, ◌-◌, ◌*◌, ◌/◌, ◌%◌, ◌^◌, ◌<◌, ◌==◌, Bool, true, false, refl, sym, ap, ◌∙◌, arith, lit<, eq-eqb, eqb-true, bit_and, bit_or, bit_xor}
use Rattle.std.specs.Prelude.{not}
use Rattle.std.proofs.lemmas.Bool.{ne_eqb}
use Rattle.std.proofs.lemmas.Bool.Decides.{nat_tests}
use Rattle.std.proofs.lemmas.Nat.{or_block, or_shifted, or_comm, xor_block, and_block, and_mask}
use Rattle.std.proofs.lemmas.Nat.Bits.{and_pow, and_high_mask}
use Rattle.std.specs.Int.Bits.{xor_self, xor_zero_r, or_zero_r, and_zero_r}
use Rattle.lockword.specs.Cells.{fields_of, waiting, taken, marked, released, spoiled}

-- a bit's weight is not 0 where the bit is 1
pub not_zero_bit : (m b : ℕ) → 0 < m → b < 2 → not (b * m == 0) ≡ (b == 1)
not_zero_bit m zero some small = let none : 0 * m ≡ 0 = omega arith in ap (λ x. not (x == 0)) none
not_zero_bit m (suc zero) some small = let apart : 1 * m ≢ 0 = omega arith in ap not (ne_eqb (1 * m) 0 apart)
not_zero_bit m (suc (suc b)) some small = absurd (omega arith)

-- the test of WAITERS
pub and_waiters : (w : ℕ) → not (bit_and w 0x8000_0000 == 0) ≡ (fields_of w).waiters
and_waiters w = ap (λ x. not (x == 0)) (and_pow w 31) ∙ not_zero_bit 0x8000_0000 (w / 0x8000_0000 % 2) (lit< tt) (omega arith)

-- the test of OWNER_DIED
pub and_died : (w : ℕ) → not (bit_and w 0x4000_0000 == 0) ≡ (fields_of w).died
and_died w = ap (λ x. not (x == 0)) (and_pow w 30) ∙ not_zero_bit 0x4000_0000 (w / 0x4000_0000 % 2) (lit< tt) (omega arith)

-- the test of UNUSABLE
pub and_unusable : (w : ℕ) → not (bit_and w 0x1_0000_0000 == 0) ≡ (fields_of w).unusable
and_unusable w = ap (λ x. not (x == 0)) (and_pow w 32) ∙ not_zero_bit 0x1_0000_0000 (w / 0x1_0000_0000 % 2) (lit< tt) (omega arith)

-- a test with no Bool
bit_holds : (n : ℕ) (b : Bool) → not (n == 0) ≡ b → (n ≢ 0) ↔ (b ≡ true)
bit_holds n b is = grind (arith, nat_tests)

-- WAITERS is set
pub waiters_bit : (w : ℕ) → (bit_and w 0x8000_0000 ≢ 0) ↔ ((fields_of w).waiters ≡ true)
waiters_bit w = bit_holds _ _ (and_waiters w)

-- OWNER_DIED is set
pub died_bit : (w : ℕ) → (bit_and w 0x4000_0000 ≢ 0) ↔ ((fields_of w).died ≡ true)
died_bit w = bit_holds _ _ (and_died w)

-- UNUSABLE is set
pub unusable_bit : (w : ℕ) → (bit_and w 0x1_0000_0000 ≢ 0) ↔ ((fields_of w).unusable ≡ true)
unusable_bit w = bit_holds _ _ (and_unusable w)

-- an owner's id is added to a word that has none
pub or_adds : (w t : ℕ) → w % 0x4000_0000 ≡ 0 → t < 0x4000_0000 → bit_or w t ≡ w + t
or_adds w t free small =
    let q : ℕ = w / 0x4000_0000 in
    let is : w ≡ q * 0x4000_0000 = omega arith in
    ap (λ x. bit_or x t) is ∙ or_shifted q 30 t small ∙ ap (λ x. x + t) (sym is)

-- a thread takes an unowned word
pub or_taken : (w t : ℕ) → w % 0x4000_0000 ≡ 0 → t < 0x4000_0000 → fields_of (bit_or w t) ≡ taken (fields_of w) t
or_taken w t free small =
    let v : ℕ = bit_or w t in
    let sum : v ≡ w + t = or_adds w t free small in
    let owner : v % 0x4000_0000 ≡ t = omega arith in
    let died : v / 0x4000_0000 ≡ w / 0x4000_0000 = omega arith in
    let waiters : v / 0x8000_0000 ≡ w / 0x8000_0000 = omega arith in
    let unusable : v / 0x1_0000_0000 ≡ w / 0x1_0000_0000 = omega arith in
    let rest : v / 0x2_0000_0000 ≡ w / 0x2_0000_0000 = omega arith in
    λ i. record { owner = owner i; died = died i % 2 == 1; waiters = waiters i % 2 == 1; unusable = unusable i % 2 == 1; rest = rest i }

-- a set lowest bit
or_one : (q : ℕ) → bit_or q 1 ≡ q / 2 * 2 + 1
or_one q =
    let h : ℕ = q / 2 in
    let is : q ≡ h * 2 + q % 2 = omega arith in
    ap (λ x. bit_or x 1) is ∙ or_block 1 h 0 (q % 2) 1 (omega arith) (lit< tt) ∙ (λ i. or_zero_r h i * 2 + digit (q % 2) (omega arith) i)
  where
    digit : (b : ℕ) → b < 2 → bit_or b 1 ≡ 1
    digit zero small = refl
    digit (suc zero) small = refl
    digit (suc (suc b)) small = absurd (omega arith)

-- WAITERS is set, whether or not it was
pub or_waiting : (w : ℕ) → fields_of (bit_or w 0x8000_0000) ≡ waiting (fields_of w)
or_waiting w =
    let v : ℕ = bit_or w 0x8000_0000 in
    let q : ℕ = w / 0x8000_0000 in
    let r : ℕ = w % 0x8000_0000 in
    let is : w ≡ q * 0x8000_0000 + r = omega arith in
    let sum : v ≡ (q / 2 * 2 + 1) * 0x8000_0000 + r =
    ap (λ x. bit_or x 0x8000_0000) is ∙ or_block 31 q 1 r 0 (omega arith) (lit< tt) ∙ (λ i. or_one q i * 0x8000_0000 + or_zero_r r i) in
    let owner : v % 0x4000_0000 ≡ w % 0x4000_0000 = omega arith in
    let died : v / 0x4000_0000 % 2 ≡ w / 0x4000_0000 % 2 = omega arith in
    let waiters : v / 0x8000_0000 % 2 ≡ 1 = omega arith in
    let unusable : v / 0x1_0000_0000 ≡ w / 0x1_0000_0000 = omega arith in
    let rest : v / 0x2_0000_0000 ≡ w / 0x2_0000_0000 = omega arith in
    λ i. record { owner = owner i; died = died i == 1; waiters = eq-eqb _ 1 waiters i; unusable = unusable i % 2 == 1; rest = rest i }

-- the owner is cleared, and OWNER_DIED is set
pub and_or_marked : (w : ℕ) → w < 2 ^ 64 → fields_of (bit_or (bit_and w 0xffff_ffff_c000_0000) 0x4000_0000) ≡ marked (fields_of w)
and_or_marked w small =
    let v : ℕ = bit_or (bit_and w 0xffff_ffff_c000_0000) 0x4000_0000 in
    let q : ℕ = w / 0x4000_0000 in
    let cleared : bit_and w 0xffff_ffff_c000_0000 ≡ q * 0x4000_0000 = and_high_mask 64 30 (omega arith) w small in
    let even : q * 0x4000_0000 ≡ q * 0x4000_0000 + 0 = omega arith in
    let sum : v ≡ (q / 2 * 2 + 1) * 0x4000_0000 + 0 =
    ap (λ x. bit_or x 0x4000_0000) (cleared ∙ even) ∙ or_block 30 q 1 0 0 (lit< tt) (lit< tt) ∙ (λ i. or_one q i * 0x4000_0000 + 0) in
    let owner : v % 0x4000_0000 ≡ 0 = omega arith in
    let died : v / 0x4000_0000 % 2 ≡ 1 = omega arith in
    let waiters : v / 0x8000_0000 ≡ w / 0x8000_0000 = omega arith in
    let unusable : v / 0x1_0000_0000 ≡ w / 0x1_0000_0000 = omega arith in
    let rest : v / 0x2_0000_0000 ≡ w / 0x2_0000_0000 = omega arith in
    λ i. record { owner = owner i; died = eq-eqb _ 1 died i; waiters = waiters i % 2 == 1; unusable = unusable i % 2 == 1; rest = rest i }

-- an owner's id is taken out of its word
pub xor_subtracts : (w t : ℕ) → w % 0x4000_0000 ≡ t → bit_xor w t ≡ w - t
xor_subtracts w t own =
    let q : ℕ = w / 0x4000_0000 in
    let small : t < 0x4000_0000 = omega arith in
    let is : w ≡ q * 0x4000_0000 + t = omega arith in
    let id : t ≡ 0 * 0x4000_0000 + t = omega arith in
    (λ i. bit_xor (is i) (id i)) ∙ xor_block 30 q 0 t t small small ∙ (λ i. xor_zero_r q i * 0x4000_0000 + xor_self t i)
    ∙ (let e : q * 0x4000_0000 + 0 ≡ w - t = omega arith in e)

-- the owner releases the word
pub xor_released : (w t : ℕ) → w % 0x4000_0000 ≡ t → fields_of (bit_xor w t) ≡ released (fields_of w)
xor_released w t own =
    let v : ℕ = bit_xor w t in
    let sum : v ≡ w - t = xor_subtracts w t own in
    let owner : v % 0x4000_0000 ≡ 0 = omega arith in
    let died : v / 0x4000_0000 ≡ w / 0x4000_0000 = omega arith in
    let waiters : v / 0x8000_0000 ≡ w / 0x8000_0000 = omega arith in
    let unusable : v / 0x1_0000_0000 ≡ w / 0x1_0000_0000 = omega arith in
    let rest : v / 0x2_0000_0000 ≡ w / 0x2_0000_0000 = omega arith in
    λ i. record { owner = owner i; died = died i % 2 == 1; waiters = waiters i % 2 == 1; unusable = unusable i % 2 == 1; rest = rest i }

-- OWNER_DIED and UNUSABLE flipped where OWNER_DIED is set
flip : (b u : ℕ) → b < 2 → u < 2 → bit_xor (u * 4 + (b * 2 + 1)) 5 ≡ (1 - u) * 4 + b * 2
flip zero zero low small = refl
flip (suc zero) zero low small = refl
flip zero (suc zero) low small = refl
flip (suc zero) (suc zero) low small = refl
flip zero (suc (suc u)) low small = absurd (omega arith)
flip (suc zero) (suc (suc u)) low small = absurd (omega arith)
flip (suc (suc b)) u low small = absurd (omega arith)

-- what the owner flips of a word that it never declared consistent, as a sum
pub xor_flips : (w t : ℕ) → w % 0x4000_0000 ≡ t → w / 0x4000_0000 % 2 ≡ 1
    → bit_xor w (t + 0x1_4000_0000) ≡ (w / 0x2_0000_0000 * 8 + ((1 - w / 0x1_0000_0000 % 2) * 4 + w / 0x8000_0000 % 2 * 2)) * 0x4000_0000
xor_flips w t own died =
    let q : ℕ = w / 0x4000_0000 in
    let h : ℕ = w / 0x2_0000_0000 in
    let b : ℕ = w / 0x8000_0000 % 2 in
    let u : ℕ = w / 0x1_0000_0000 % 2 in
    let small : t < 0x4000_0000 = omega arith in
    let is : w ≡ q * 0x4000_0000 + t = omega arith in
    let operand : t + 0x1_4000_0000 ≡ 5 * 0x4000_0000 + t = omega arith in
    let parts : q ≡ h * 8 + (u * 4 + (b * 2 + 1)) = omega arith in
    let high : bit_xor q 5 ≡ h * 8 + ((1 - u) * 4 + b * 2) =
    ap (λ x. bit_xor x 5) parts ∙ xor_block 3 h 0 (u * 4 + (b * 2 + 1)) 5 (omega arith) (lit< tt) ∙ (λ i. xor_zero_r h i * 8 + flip b u (omega arith) (omega arith) i) in
    (λ i. bit_xor (is i) (operand i)) ∙ xor_block 30 q 5 t t small small ∙ (λ i. high i * 0x4000_0000 + xor_self t i)
    ∙ (let e : (h * 8 + ((1 - u) * 4 + b * 2)) * 0x4000_0000 + 0 ≡ (h * 8 + ((1 - u) * 4 + b * 2)) * 0x4000_0000 = omega arith in e)

-- a flipped flag
flipped : (u : ℕ) → u < 2 → (1 - u == 1) ≡ not (u == 1)
flipped zero small = refl
flipped (suc zero) small = refl
flipped (suc (suc u)) small = absurd (omega arith)

-- the owner releases a word with OWNER_DIED set, and flips UNUSABLE
pub xor_spoiled : (w t : ℕ) → w % 0x4000_0000 ≡ t → (fields_of w).died ≡ true → fields_of (bit_xor w (t + 0x1_4000_0000)) ≡ spoiled (fields_of w)
xor_spoiled w t own dead =
    let v : ℕ = bit_xor w (t + 0x1_4000_0000) in
    let b : ℕ = w / 0x8000_0000 % 2 in
    let u : ℕ = w / 0x1_0000_0000 % 2 in
    let sum : v ≡ (w / 0x2_0000_0000 * 8 + ((1 - u) * 4 + b * 2)) * 0x4000_0000 = xor_flips w t own (eqb-true _ 1 dead) in
    let owner : v % 0x4000_0000 ≡ 0 = omega arith in
    let died : v / 0x4000_0000 % 2 ≡ 0 = omega arith in
    let waiters : v / 0x8000_0000 % 2 ≡ b = omega arith in
    let unusable : v / 0x1_0000_0000 % 2 ≡ 1 - u = omega arith in
    let rest : v / 0x2_0000_0000 ≡ w / 0x2_0000_0000 = omega arith in
    λ i. record { owner = owner i; died = died i == 1; waiters = waiters i == 1; unusable = (ap (λ x. x == 1) unusable ∙ flipped u (omega arith)) i; rest = rest i }

-- what such an owner flips, put together by its bits
pub or_flips : (t : ℕ) → t < 0x4000_0000 → bit_or (bit_or t 0x4000_0000) 0x1_0000_0000 ≡ t + 0x1_4000_0000
or_flips t small =
    let low : bit_or t 0x4000_0000 ≡ 1 * 0x4000_0000 + t = or_comm t 0x4000_0000 ∙ or_shifted 1 30 t small in
    ap (λ x. bit_or x 0x1_0000_0000) low ∙ or_comm (1 * 0x4000_0000 + t) 0x1_0000_0000 ∙ or_shifted 1 32 (1 * 0x4000_0000 + t) (omega arith)
    ∙ (let e : 1 * 0x1_0000_0000 + (1 * 0x4000_0000 + t) ≡ t + 0x1_4000_0000 = omega arith in e)

-- every bit but OWNER_DIED, of a word of 64 bits
and_sum : (w : ℕ) → bit_and w 0xffff_ffff_bfff_ffff ≡ w / 0x8000_0000 % 2 ^ 33 * 0x8000_0000 + w % 0x4000_0000
and_sum w =
    let q : ℕ = w / 0x4000_0000 in
    let r : ℕ = w % 0x4000_0000 in
    let is : w ≡ q * 0x4000_0000 + r = omega arith in
    let low : bit_and r 0x3fff_ffff ≡ r = and_mask r 30 ∙ (let e : r % 0x4000_0000 ≡ r = omega arith in e) in
    let half : q ≡ q / 2 * 2 + q % 2 = omega arith in
    let high : bit_and q 0x3_ffff_fffe ≡ q / 2 % 2 ^ 33 * 2 + 0 =
    ap (λ x. bit_and x 0x3_ffff_fffe) half ∙ and_block 1 (q / 2) 0x1_ffff_ffff (q % 2) 0 (omega arith) (lit< tt) ∙ (λ i. and_mask (q / 2) 33 i * 2 + and_zero_r (q % 2) i) in
    ap (λ x. bit_and x 0xffff_ffff_bfff_ffff) is ∙ and_block 30 q 0x3_ffff_fffe r 0x3fff_ffff (omega arith) (lit< tt) ∙ (λ i. high i * 0x4000_0000 + low i)
    ∙ (let e : (q / 2 % 2 ^ 33 * 2 + 0) * 0x4000_0000 + r ≡ w / 0x8000_0000 % 2 ^ 33 * 0x8000_0000 + w % 0x4000_0000 = omega arith in e)

-- a word declared consistent: OWNER_DIED is cleared, the other bits below the 33rd stay, and those above stay clear
pub record Declares (w v : ℕ) : Type 0 where
  pub owner : (fields_of v).owner ≡ (fields_of w).owner
  pub died : (fields_of v).died ≡ false
  pub waiters : (fields_of v).waiters ≡ (fields_of w).waiters
  pub unusable : (fields_of v).unusable ≡ (fields_of w).unusable
  pub rest : (fields_of w).rest ≡ 0 → (fields_of v).rest ≡ 0

pub and_declared : (w : ℕ) → Declares w (bit_and w 0xffff_ffff_bfff_ffff)
and_declared w =
    let v : ℕ = bit_and w 0xffff_ffff_bfff_ffff in
    let sum : v ≡ w / 0x8000_0000 % 2 ^ 33 * 0x8000_0000 + w % 0x4000_0000 = and_sum w in
    let died : v / 0x4000_0000 % 2 ≡ 0 = omega arith in
    let waiters : v / 0x8000_0000 % 2 ≡ w / 0x8000_0000 % 2 = omega arith in
    let unusable : v / 0x1_0000_0000 % 2 ≡ w / 0x1_0000_0000 % 2 = omega arith in
    record { owner = omega arith; died = ap (λ x. x == 1) died; waiters = ap (λ x. x == 1) waiters; unusable = ap (λ x. x == 1) unusable; rest = λ none. omega arith }

-- two words with one futex word have one owner, and WAITERS alike
pub low_alike : (w v : ℕ) → w % 2 ^ 32 ≡ v % 2 ^ 32 → ((fields_of w).owner ≡ (fields_of v).owner) × ((fields_of w).waiters ≡ (fields_of v).waiters)
low_alike w v same =
    let bits : w / 0x8000_0000 % 2 ≡ v / 0x8000_0000 % 2 = omega arith in
    (omega arith, ap (λ x. x == 1) bits)
