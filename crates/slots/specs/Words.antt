-- Words of cells, slots and counters: what a call does to them, and what it sees there.
use Rattle.std.specs.Prelude.{ℕ, ◌+◌, ◌-◌, ◌*◌, ◌==◌, ◌&&◌, not, Bool}
use Rattle.lockword.specs.Cells.{fields_of, word_of, taken, waiting}

abbrev pub awake_bit : ℕ
awake_bit = 0x1_0000_0000

-- of a counter: SLEPT
abbrev pub slept_bit : ℕ
slept_bit = 0x1_0000_0000

abbrev pub all_but : ℕ → ℕ
all_but n = 0xffff_ffff_ffff_ffff - n

-- taken by thread t, with one turn more
abbrev pub taken_word : ℕ → ℕ → ℕ
taken_word v t = word_of (taken (fields_of v) t) + 0x2_0000_0000

abbrev pub waiting_word : ℕ → ℕ
waiting_word v = word_of (waiting (fields_of v))

-- nobody owns it, and it may be taken
abbrev pub is_free : ℕ → Bool
is_free w = ((fields_of w).owner == 0) && not (fields_of w).unusable

-- after a release of the cell, `is_heir`: there is an heir, or an heir was killed, and Linux hasn't marked its slot yet
abbrev pub shows_heir : ℕ → Bool
shows_heir g = (fields_of g).unusable && not ((fields_of g).owner == 0) && not (fields_of g).died

-- `is_moving`: the slot's owner is about to free it, or to say that it is awake
abbrev pub is_moving : ℕ → Bool
is_moving g = not ((fields_of g).owner == 0) && not (fields_of g).unusable && not (fields_of g).died

-- an heir says at this time that it is awake
abbrev pub awake_word : ℕ → ℕ → ℕ
awake_word t time = t + awake_bit + time * 0x2_0000_0000
