-- Words that are one of a few, or none of them.
use Rattle.std.proofs.Common.{◌≡◌, ℕ, Bool, true, false, List, Some, None, if◌then◌else◌, refl, sym, subst}
use Rattle.std.specs.Option.{is_some}
use Rattle.std.specs.Str.{bytes_eq}
use Rattle.std.specs.Str.Parse.{digits_value}
use Rattle.lines.specs.Numbers.{is_number, within}
use Rattle.verdict.specs.Limits.{max_events}
use Rattle.verdict.specs.Forms.{number_of}
use Rattle.std.proofs.lemmas.Slice.Eq.{bytes_eq-Decides}

-- what holds of this very word, and of w where it is another one
pub pick : (P : List ℕ → Type 0) (w v : List ℕ) → P v → (bytes_eq w v ≡ false → P w) → P w
pick P w v here other = go (bytes_eq w v) refl
  where
    go : (b : Bool) → bytes_eq w v ≡ b → P w
    go true e = subst P (sym ((bytes_eq-Decides w v).0 e)) here
    go false e = other e

-- a word spells a number just where it is one
pub number_is_some : (w : List ℕ) → is_some (number_of w) ≡ is_number w
number_is_some w = go (is_number w)
  where
    go : (b : Bool) → is_some (if b then Some (within 0 max_events (digits_value 10 w)) else None) ≡ b
    go true = refl
    go false = refl
