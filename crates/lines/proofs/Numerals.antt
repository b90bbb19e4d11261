-- Numbers as words.
use Rattle.std.specs.Prelude.{decimal, nat_lt, slice_index_or}
use Rattle.std.proofs.lemmas.Fmt.{decimal_digit, decimal_nonempty, first_decimal, digits_decimal, digits_value-decimal}
use Rattle.std.proofs.Common.{◌≡◌, ℕ, zero, suc, ◌<◌, ◌^◌, eqb-true, ◌==◌, Bool, true, false, not, ◌&&◌, List, [], ◌∷◌, length, None, Err, refl, sym, ap, ◌∙◌, arith}
use Rattle.std.specs.List.{list_all}
use Rattle.std.specs.Char.{is_ascii_digit}
use Rattle.std.specs.Str.{all_ascii_digits}
use Rattle.std.specs.Str.Parse.{digits_value, ParsesUnsigned}
use Rattle.std.proofs.lemmas.Str.Parse.{IsNumeralModel, numerals_by_value, tells_all_ascii_digits, parse_digits}
use Rattle.std.proofs.lemmas.Bool.Decides.{nat_tests}
use Rattle.lines.specs.Numbers.{is_number, within}

pub same_digits : (bs : List ℕ) → list_all is_ascii_digit bs ≡ all_ascii_digits bs
same_digits [] = refl
same_digits (b ∷ bs) = ap (λ t. is_ascii_digit b && t) (same_digits bs)

own : IsNumeralModel (λ ds. all_ascii_digits ds ≡ true) (digits_value 10)
own = numerals_by_value (λ ds. all_ascii_digits ds ≡ true) tells_all_ascii_digits

both : (a b : Bool) → (a && b) ≡ true → b ≡ true
both true b e = e
both false b e = absurd cc

is_digits : (w : List ℕ) → is_number w ≡ true → all_ascii_digits w ≡ true
is_digits [] e = absurd cc
is_digits (b ∷ []) e = rw e refl
is_digits (b ∷ c ∷ bs) e = sym (same_digits (b ∷ c ∷ bs)) ∙ both (not (b == 48)) (list_all is_ascii_digit (b ∷ c ∷ bs)) e

has_length : (w : List ℕ) → is_number w ≡ true → 0 < length w
has_length [] e = absurd cc
has_length (b ∷ bs) e = omega arith

-- digits that are no number of 32 bits write none of a range of these
pub too_long : {E : Type 0} (w : List ℕ) (low high : ℕ) (e : E) → is_number w ≡ true → high < 2 ^ 32 → ParsesUnsigned 32 10 w (Err e) → None ≡ within low high (digits_value 10 w)
too_long {E} w low high e is small h =
    let k = parse_digits own 32 w (Err e) h (is_digits w is) in
    grind (arith, nat_tests)

-- and such a number is below no limit that a word of 32 bits can say
pub not_below : {E : Type 0} (w : List ℕ) (limit : ℕ) (e : E) → is_number w ≡ true → limit < 2 ^ 32 → ParsesUnsigned 32 10 w (Err e) → false ≡ nat_lt (digits_value 10 w) limit
not_below {E} w limit e is small h =
    let k = parse_digits own 32 w (Err e) h (is_digits w is) in
    grind (arith, nat_tests)

-- a numeral without leading zeros is a number
spelled : (w : List ℕ) → 0 < length w → all_ascii_digits w ≡ true → (slice_index_or w 0 0 ≡ 48 → length w ≡ 1) → is_number w ≡ true
spelled [] some digits lead = absurd (omega (arith, some))
spelled (b ∷ []) some digits lead = own_digit (is_ascii_digit b) (same_digits (b ∷ []) ∙ digits)
  where
    own_digit : (d : Bool) → (d && true) ≡ true → d ≡ true
    own_digit true e = refl
    own_digit false e = e
spelled (b ∷ c ∷ bs) some digits lead = go (b == 48) refl
  where
    go : (z : Bool) → (b == 48) ≡ z → (not z && list_all is_ascii_digit (b ∷ c ∷ bs)) ≡ true
    go true is = absurd (omega (arith, lead (eqb-true b 48 is)))
    go false is = same_digits (b ∷ c ∷ bs) ∙ digits

leads : (n : ℕ) → n < 2 ^ 64 → slice_index_or (decimal n) 0 0 ≡ 48 → length (decimal n) ≡ 1
leads zero small zero_first = ap length (decimal_digit 0 (omega arith))
leads (suc n) small zero_first = absurd (omega (arith, first_decimal (suc n) (omega arith) small))

-- what is written of a number is one, and says it
pub written : (n : ℕ) → n < 2 ^ 64 → is_number (decimal n) ≡ true
written n small = spelled (decimal n) (decimal_nonempty n small) (digits_decimal own n small) (leads n small)

pub read_back : (n : ℕ) → n < 2 ^ 64 → digits_value 10 (decimal n) ≡ n
read_back n small = digits_value-decimal own n small
