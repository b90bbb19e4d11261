-- Signs that aren't ASCII, as UTF-8 has them.
use Rattle.std.specs.Prelude.{ℕ, List, [], ◌∷◌}

-- ·, U+00B7: between calls
abbrev pub dot : List ℕ
dot = 194 ∷ 183 ∷ []

-- │, U+2502: in a call
abbrev pub bar : List ℕ
bar = 226 ∷ 148 ∷ 130 ∷ []

-- ╎, U+254E: killed
abbrev pub dashes : List ℕ
dashes = 226 ∷ 149 ∷ 142 ∷ []

-- †, U+2020: reaped
abbrev pub dagger : List ℕ
dagger = 226 ∷ 128 ∷ 160 ∷ []

-- ┌, U+250C: a call begins
abbrev pub top : List ℕ
top = 226 ∷ 148 ∷ 140 ∷ []

-- ●, U+25CF: a point
abbrev pub disc : List ℕ
disc = 226 ∷ 151 ∷ 143 ∷ []

-- └, U+2514: a call returns
abbrev pub bottom : List ℕ
bottom = 226 ∷ 148 ∷ 148 ∷ []

-- ╳, U+2573: a kill
abbrev pub cross : List ℕ
cross = 226 ∷ 149 ∷ 179 ∷ []

-- ○, U+25CB: an arrow of which no line tells where it comes from
abbrev pub ring : List ℕ
ring = 226 ∷ 151 ∷ 139 ∷ []

-- ─, U+2500: an arrow
abbrev pub dash : List ℕ
dash = 226 ∷ 148 ∷ 128 ∷ []

-- ├, U+251C: an arrow begins, to the right
abbrev pub to_right : List ℕ
to_right = 226 ∷ 148 ∷ 156 ∷ []

-- ┤, U+2524: an arrow begins, to the left
abbrev pub to_left : List ℕ
to_left = 226 ∷ 148 ∷ 164 ∷ []
