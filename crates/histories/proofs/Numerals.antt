-- Numbers as words.
use Rattle.std.proofs.Common.{◌≡◌, ℕ, ◌<◌, ◌^◌, ◌==◌, Bool, true, false, not, ◌&&◌, List, [], ◌∷◌, None, Err, refl, sym, ◌∙◌, arith}
use Rattle.std.specs.List.{list_all}
use Rattle.std.specs.Char.{is_ascii_digit}
use Rattle.std.specs.Str.{all_ascii_digits}
use Rattle.std.specs.Str.Parse.{digits_value, ParsesUnsigned}
use Rattle.std.proofs.lemmas.Str.Parse.{IsNumeralModel, numerals_by_value, tells_all_ascii_digits, parse_digits}
use Rattle.std.proofs.lemmas.Bool.Decides.{nat_tests}
use Rattle.lines.specs.Numbers.{is_number, within}
use Rattle.lines.proofs.Numerals.{same_digits}

both : (a b : Bool) → (a && b) ≡ true → b ≡ true
both true b e = e
both false b e = absurd cc

pub is_digits : (w : List ℕ) → is_number w ≡ true → all_ascii_digits w ≡ true
is_digits [] e = absurd cc
is_digits (b ∷ []) e = rw e refl
is_digits (b ∷ c ∷ bs) e = sym (same_digits (b ∷ c ∷ bs)) ∙ both (not (b == 48)) (list_all is_ascii_digit (b ∷ c ∷ bs)) e

-- digits that are no number of 64 bits write none of a range of these
pub too_long : {E : Type 0} (w : List ℕ) (low high : ℕ) (e : E) → is_number w ≡ true → high < 2 ^ 64 → ParsesUnsigned 64 10 w (Err e) → None ≡ within low high (digits_value 10 w)
too_long {E} w low high e is small h =
    let own : IsNumeralModel (λ ds. all_ascii_digits ds ≡ true) (digits_value 10) = numerals_by_value (λ ds. all_ascii_digits ds ≡ true) tells_all_ascii_digits in
    let k = parse_digits own 64 w (Err e) h (is_digits w is) in
    grind (arith, nat_tests)
