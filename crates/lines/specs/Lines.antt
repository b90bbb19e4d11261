-- Lines and their words.
use Rattle.std.specs.Prelude.{ℕ, ◌+◌, ◌==◌, List, take, count_by}
use Rattle.std.specs.List.{slice_split}
use Rattle.std.specs.Str.Lossy.{utf8_valid_len}

-- the parts between line feeds: the lines, and what stands after the last line feed
abbrev pub lines_of : List ℕ → List (List ℕ)
lines_of bytes = slice_split (λ b. b == 10) bytes

-- the words of a line, which are the parts between spaces
abbrev pub words_of : List ℕ → List (List ℕ)
words_of text = slice_split (λ b. b == 32) text

-- the line of the first byte that is no part of a character
abbrev pub bad_line : List ℕ → ℕ
bad_line bytes = count_by (λ b. b == 10) (take (utf8_valid_len bytes) bytes) + 1
