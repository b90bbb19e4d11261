-- What tables and replies tell of a mutex in the same words.
use Rattle.std.specs.Prelude.{ℕ, List, [], ◌∷◌, ◌++◌, codes}
use Rattle.std.specs.List.{concat}
use Rattle.std.specs.Int.{w64, to_be_bytes}
use Rattle.hex.specs.Hex.{encode_lower}

-- a word in 16 hexadecimal digits, the highest first
abbrev pub word_digits : ℕ → List ℕ
word_digits w = encode_lower (to_be_bytes w64 w)

-- mutex NAME CELL OWNER and a space: its sleepers come then
abbrev pub mutex_start : List ℕ → ℕ → List ℕ → List ℕ
mutex_start name cell owner =
    concat (codes "mutex " ∷ name ∷ codes " " ∷ []) ++ (word_digits cell ++ concat (codes " " ∷ owner ∷ codes " " ∷ []))
