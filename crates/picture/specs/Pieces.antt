-- Texts in columns.
use Rattle.std.specs.Prelude.{ℕ, zero, suc, ◌-◌, List, [], ◌∷◌, ◌++◌, length, codes}
use Rattle.std.specs.List.{concat, repeat}

-- how many of the columns the pieces leave, of which each byte takes one
abbrev pub less : ℕ → List (List ℕ) → ℕ
less columns [] = columns
less columns (p ∷ ps) = less (columns - length p) ps

-- the pieces, and blanks up to that many columns
abbrev pub padded : ℕ → List (List ℕ) → List ℕ
padded columns ps = concat ps ++ repeat (less columns ps) (codes " ")

-- the texts of the numbers below one, side by side
abbrev pub each : (ℕ → List ℕ) → ℕ → List ℕ
each f zero = []
each f (suc n) = each f n ++ f n
