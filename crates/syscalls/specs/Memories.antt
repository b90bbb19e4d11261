-- The words of a memory, and what an access does to them.
use Rattle.std.specs.Prelude.{ℕ, ◌&&◌, Bool, nat_le, nat_lt, List, [], length}
use Rattle.std.specs.Prelude.{slice_index, slice_set, Option, Some, None, if◌then◌else◌}
use Rattle.stepprograms.specs.declared.access.Access.{Access}
use Rattle.stepprograms.specs.Accesses.{address_of, word_among}

-- a place is valid if it is at least 1, word 0 being null, and less than the number of words
abbrev pub is_valid : List ℕ → ℕ → Bool
is_valid words at = nat_le 1 at && nat_lt at (length words)

-- the word at a place; none where the place is invalid
abbrev pub word_at : List ℕ → ℕ → Option ℕ
word_at words at = if is_valid words at then Some (slice_index words at) else None

-- the words after an access of a memory, which knows of no sleepers: the one at its address, which is a place here, is
-- changed, where that is valid, and all others stay
abbrev pub words_after : Access → List ℕ → List ℕ
words_after a words =
    if is_valid words (address_of a)
    then slice_set words (address_of a) (word_among a (slice_index words (address_of a)) [])
    else words
