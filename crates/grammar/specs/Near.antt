-- The nearest of several words.
use Rattle.std.specs.Prelude.{ℕ, ◌-◌, ◌/◌, ◌<◌, ◌≤◌, min, max, List, length, All, Contains, Option, Some, None}
use Rattle.std.specs.Str.{chars}
use Rattle.strsim.specs.Edits.{osa_table}

-- how many edits lead from one word to the other: a letter more, a letter less, another letter, or two neighbours
-- swapped
abbrev pub edits : List ℕ → List ℕ → ℕ
edits w v = (osa_table (chars w) (chars v)).last_row (length (chars v))

-- how many edits a misspelt word has at most: a third of its bytes, or one if that is more; and fewer than it has
-- characters, as any word of that length is no farther away
abbrev pub most_edits : List ℕ → ℕ
most_edits w = min (max (length w) 3 / 3) (length (chars w) - 1)

-- of these words, one that is as near as any, and not too far; or all are too far
abbrev pub IsNearest : List ℕ → List (List ℕ) → Option (List ℕ) → Type 0
IsNearest w vs None = All (λ v. most_edits w < edits w v) vs
IsNearest w vs (Some v) = Contains vs v × (edits w v ≤ most_edits w) × All (λ u. edits w v ≤ edits w u) vs
