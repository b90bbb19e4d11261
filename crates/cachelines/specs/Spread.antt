-- Where the word of each place lies: three words to a group, and ten words of memory to a group, so that 64 bytes lie
-- between the last word of one and the first of the next.
--
-- *Where words lie.* The word of memory that each place has: ten words to a group of three places. A list of words of
-- memory, read by place; and a rule of words by place, as a rule of those of memory.
use Rattle.std.specs.Prelude.{◌≡◌, ℕ, zero, suc, ◌+◌, ◌-◌, ◌*◌, ◌/◌, ◌%◌, List, [], ◌∷◌, length, slice_index}
use Rattle.atomic_table.specs.Table.{State, Step}

-- the word of memory that has place p; the groups are of places 1 to 3, 4 to 6, and so on
abbrev pub slot_of : ℕ → ℕ
slot_of p = 10 * ((p + 2) / 3) + (p + 2) % 3

-- the place whose word lies there
abbrev pub place_of : ℕ → ℕ
place_of s = 3 * (s / 10) + s % 10 - 2

-- how many words of memory this many places take
abbrev pub slots_for : ℕ → ℕ
slots_for n = 10 * ((n + 1) / 3 + 1)

-- the words of this many places from p on
abbrev pub words_from : ℕ → ℕ → List ℕ → List ℕ
words_from zero p ws = []
words_from (suc n) p ws = slice_index ws (slot_of p) ∷ words_from n (suc p) ws

module _ {S V : Type 0} where
  -- the same state, its words by place
  abbrev pub by_place : ℕ → State S V → State S V
  by_place n s = record { words = words_from n 0 s.words; homes = s.homes; views = s.views }

  -- a rule of words by place, of this many, as one of memory
  abbrev pub spread : ℕ → (State S V → Type 0) → State S V → Type 0
  spread n holds s = (length s.words ≡ slots_for n) × holds (by_place n s)

-- the same step, its word by place
abbrev pub at_place : {S : Type 0} → Step S → Step S
at_place st = record st { word = place_of st.word }
