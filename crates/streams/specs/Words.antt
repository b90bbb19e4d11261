-- The words of a command line.
use Rattle.std.specs.Prelude.{ℕ, Bool, true, not, ◌==◌, List, [], ◌∷◌}

-- a word that names a file: it doesn't begin with a hyphen
abbrev pub is_file_word : List ℕ → Bool
is_file_word [] = true
is_file_word (b ∷ bs) = not (b == 45)
