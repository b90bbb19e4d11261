-- How names and words that a trace or a script may choose are in a page: percent-encoded, all but letters and digits
-- (the URL Standard, section 1.3).
use Rattle.std.specs.Prelude.{ℕ, ◌≡◌, ◌≢◌, ◌<◌, List, All}
use Rattle.percent_encoding.specs.declared.ascii_set.TheConstants.{NON_ALPHANUMERIC}
use Rattle.percent_encoding.specs.Percent.{percent_decode, percent_encode}

abbrev pub escaped : List ℕ → List ℕ
escaped bs = percent_encode NON_ALPHANUMERIC bs

-- a byte that ends no text and begins no markup: neither a quote, an ampersand, an apostrophe, an angle bracket nor a
-- backslash
pub record IsPlain (b : ℕ) : Type 0 where
  pub quote : b ≢ 34
  pub ampersand : b ≢ 38
  pub apostrophe : b ≢ 39
  pub less : b ≢ 60
  pub greater : b ≢ 62
  pub backslash : b ≢ 92

-- what stands of a name in the data of a page is plain, and is read back as the name
pub record IsEscaped (name : List ℕ) : Type 0 where
  pub plain : All IsPlain (escaped name)
  pub back : All (λ b. b < 256) name → percent_decode (escaped name) ≡ name

-- whatever the name is
abbrev pub NamesAreEscaped : Type 0
NamesAreEscaped = (name : List ℕ) → IsEscaped name
