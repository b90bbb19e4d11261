-- What is escaped has no character of markup.
use Rattle.std.proofs.Common.{◌≡◌, ◌≢◌, ℕ, true, false, List, All, refl, sym, subst, arith}
use Rattle.percent_encoding.specs.declared.ascii_set.TheConstants.{NON_ALPHANUMERIC}
use Rattle.percent_encoding.specs.AsciiSet.{contains, should_percent_encode}
use Rattle.percent_encoding.proofs.PercentLemmas.{All-percent_encode, IsEscapeByte, round_trip}
use Rattle.page.specs.Escapes.{IsPlain, NamesAreEscaped, escaped}

kept_is_not : (b m : ℕ) → should_percent_encode NON_ALPHANUMERIC b ≡ false → should_percent_encode NON_ALPHANUMERIC m ≡ true → b ≢ m
kept_is_not b m kept set is = let same : should_percent_encode NON_ALPHANUMERIC b ≡ true = subst (λ (n : ℕ). should_percent_encode NON_ALPHANUMERIC n ≡ true) (sym is) set in cc

kept : (b : ℕ) → should_percent_encode NON_ALPHANUMERIC b ≡ false → IsPlain b
unfolding should_percent_encode
kept b h = record {
  quote = kept_is_not b 34 h refl;
  ampersand = kept_is_not b 38 h refl;
  apostrophe = kept_is_not b 39 h refl;
  less = kept_is_not b 60 h refl;
  greater = kept_is_not b 62 h refl;
  backslash = kept_is_not b 92 h refl;
}

quote_no : (b : ℕ) → IsEscapeByte b → b ≡ 34 → ⊥
quote_no b h e = grind arith

ampersand_no : (b : ℕ) → IsEscapeByte b → b ≡ 38 → ⊥
ampersand_no b h e = grind arith

apostrophe_no : (b : ℕ) → IsEscapeByte b → b ≡ 39 → ⊥
apostrophe_no b h e = grind arith

less_no : (b : ℕ) → IsEscapeByte b → b ≡ 60 → ⊥
less_no b h e = grind arith

greater_no : (b : ℕ) → IsEscapeByte b → b ≡ 62 → ⊥
greater_no b h e = grind arith

backslash_no : (b : ℕ) → IsEscapeByte b → b ≡ 92 → ⊥
backslash_no b h e = grind arith

escape : (b : ℕ) → IsEscapeByte b → IsPlain b
escape b h = record {
  quote = λ e. quote_no b h e;
  ampersand = λ e. ampersand_no b h e;
  apostrophe = λ e. apostrophe_no b h e;
  less = λ e. less_no b h e;
  greater = λ e. greater_no b h e;
  backslash = λ e. backslash_no b h e;
}

pub plain_name : (name : List ℕ) → All IsPlain (escaped name)
plain_name name = All-percent_encode IsPlain NON_ALPHANUMERIC name kept escape

has_percent : contains NON_ALPHANUMERIC 37 ≡ true
has_percent = refl

pub names_are_escaped : NamesAreEscaped
names_are_escaped name = record {
  plain = plain_name name;
  back = round_trip NON_ALPHANUMERIC name has_percent;
}
