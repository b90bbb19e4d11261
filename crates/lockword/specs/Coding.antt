-- A word and what it says determine each other.
use Rattle.std.specs.Prelude.{ℕ, ◌≡◌, ◌==◌, ◌+◌, ◌*◌, ◌/◌, ◌%◌, ◌<◌, Bool, true, false}
use Rattle.std.proofs.Common.{arith, ap, ◌∙◌}
use Rattle.std.proofs.lemmas.Bool.Decides.{nat_tests}
use Rattle.lockword.specs.Cells.{Fields, bit, word_of, fields_of}

-- the weight of a bit that is tested
bit-test : (x n : ℕ) → bit (x % 2 == 1) n ≡ (x % 2) * n
bit-test x n = let below : x % 2 < 2 = omega arith in go (x % 2) below
  where
    go : (y : ℕ) → y < 2 → bit (y == 1) n ≡ y * n
    go y h = grind (arith, nat_tests)

-- what a word says is the word
pub word_of-fields_of : (w : ℕ) → word_of (fields_of w) ≡ w
word_of-fields_of w =
    omega (arith, bit-test (w / 0x4000_0000) 0x4000_0000, bit-test (w / 0x8000_0000) 0x8000_0000, bit-test (w / 0x1_0000_0000) 0x1_0000_0000)

-- a flag as a digit
abbrev digit : Bool → ℕ
digit true = 1
digit false = 0

-- the digit of a flag tells it
digit-test : (b : Bool) → (digit b == 1) ≡ b
digit-test b = grind (arith, nat_tests)

-- it is 0 or 1
digit-small : (b : Bool) → digit b < 2
digit-small b = grind arith

-- a flag's weight by its digit
bit-digit : (b : Bool) (n : ℕ) → bit b n ≡ digit b * n
bit-digit true n = omega arith
bit-digit false n = omega arith

-- a word by its digits
abbrev sum_of : (owner died waiters unusable rest : ℕ) → ℕ
sum_of o d w u r = o + d * 0x4000_0000 + w * 0x8000_0000 + u * 0x1_0000_0000 + r * 0x2_0000_0000

-- the owner of such a word
owner-sum : (o d w u r : ℕ) → o < 0x4000_0000 → sum_of o d w u r % 0x4000_0000 ≡ o
owner-sum o d w u r h = omega arith

-- its OWNER_DIED
died-sum : (o d w u r : ℕ) → o < 0x4000_0000 → d < 2 → sum_of o d w u r / 0x4000_0000 % 2 ≡ d
died-sum o d w u r h a = omega arith

-- its WAITERS
waiters-sum : (o d w u r : ℕ) → o < 0x4000_0000 → d < 2 → w < 2 → sum_of o d w u r / 0x8000_0000 % 2 ≡ w
waiters-sum o d w u r h a b = omega arith

-- its UNUSABLE
unusable-sum : (o d w u r : ℕ) → o < 0x4000_0000 → d < 2 → w < 2 → u < 2 → sum_of o d w u r / 0x1_0000_0000 % 2 ≡ u
unusable-sum o d w u r h a b c = omega arith

-- what is above them
rest-sum : (o d w u r : ℕ) → o < 0x4000_0000 → d < 2 → w < 2 → u < 2 → sum_of o d w u r / 0x2_0000_0000 ≡ r
rest-sum o d w u r h a b c = omega arith

-- the word of an owner and flags says them
pub fields_of-word_of : (c : Fields) → c.owner < 0x4000_0000 → fields_of (word_of c) ≡ c
fields_of-word_of c h =
    let d : ℕ = digit c.died in
    let w : ℕ = digit c.waiters in
    let u : ℕ = digit c.unusable in
    let d-small = digit-small c.died in
    let w-small = digit-small c.waiters in
    let u-small = digit-small c.unusable in
    let sum : word_of c ≡ sum_of c.owner d w u c.rest = omega (arith, bit-digit c.died 0x4000_0000, bit-digit c.waiters 0x8000_0000, bit-digit c.unusable 0x1_0000_0000) in
    λ i. record {
      owner = (ap (λ x. x % 0x4000_0000) sum ∙ owner-sum c.owner d w u c.rest h) i;
      died = (ap (λ x. x / 0x4000_0000 % 2 == 1) sum ∙ ap (λ x. x == 1) (died-sum c.owner d w u c.rest h d-small) ∙ digit-test c.died) i;
      waiters = (ap (λ x. x / 0x8000_0000 % 2 == 1) sum ∙ ap (λ x. x == 1) (waiters-sum c.owner d w u c.rest h d-small w-small) ∙ digit-test c.waiters) i;
      unusable = (ap (λ x. x / 0x1_0000_0000 % 2 == 1) sum ∙ ap (λ x. x == 1) (unusable-sum c.owner d w u c.rest h d-small w-small u-small) ∙ digit-test c.unusable) i;
      rest = (ap (λ x. x / 0x2_0000_0000) sum ∙ rest-sum c.owner d w u c.rest h d-small w-small u-small) i;
    }
