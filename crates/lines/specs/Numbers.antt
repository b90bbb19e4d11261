-- Numbers as words write them.
use Rattle.std.specs.Prelude.{ℕ, Bool, false, not, ◌&&◌, ◌==◌, nat_le, List, [], ◌∷◌, Option, Some, None, if◌then◌else◌}
use Rattle.std.specs.List.{list_all}
use Rattle.std.specs.Char.{is_ascii_digit}

-- the spelling of a number: decimal, without sign and without leading zeros
abbrev pub is_number : List ℕ → Bool
is_number [] = false
is_number (b ∷ []) = is_ascii_digit b
is_number (b ∷ c ∷ bs) = not (b == 48) && list_all is_ascii_digit (b ∷ c ∷ bs)

-- the number where it is in the range
abbrev pub within : ℕ → ℕ → ℕ → Option ℕ
within low high n = if nat_le low n && nat_le n high then Some n else None
