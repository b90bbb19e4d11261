-- Words of mutexes as the kernel's walk sees them, by their bits (futex(2), robust-futex-ABI.rst), and sums of
-- addresses.
use Rattle.std.specs.Prelude.{ℕ, ◌+◌, ◌*◌, ◌/◌, ◌%◌, ◌^◌, ◌==◌, Bool, if◌then◌else◌}

abbrev pub sum_of : ℕ → ℕ → ℕ
sum_of a b = (a + b) % 2 ^ 64

-- the low 30 bits
abbrev pub owner_in : ℕ → ℕ
owner_in v = v % 2 ^ 30

-- WAITERS, bit 31, is set
abbrev pub has_waiters : ℕ → Bool
has_waiters v = v / 2 ^ 31 % 2 == 1

-- the owner of such a word has died: its low half becomes WAITERS, if that was set, and OWNER_DIED; the high half is
-- kept
abbrev pub died_word : ℕ → ℕ
died_word v = v / 2 ^ 32 * 2 ^ 32 + v / 2 ^ 31 % 2 * 2 ^ 31 + 2 ^ 30

-- the words after a store
abbrev pub put : (ℕ → ℕ) → ℕ → ℕ → ℕ → ℕ
put words at v x = if x == at then v else words x
