-- Our mutexes and the machine's. Each of ours is two of the machine's: the cell, which a call takes and releases; and the
-- slot, on which nobody sleeps, and whose owner waits awake for the cell. A condition variable is one of the machine's,
-- with a cell as its mutex.
use Rattle.std.specs.Prelude.{ℕ, ◌+◌, ◌-◌, ◌*◌, ◌/◌, ◌%◌, ◌==◌, ◌&&◌, Bool, nat_le, nat_lt, Option, Some, None, if◌then◌else◌}
use Rattle.memorymap.specs.Layouts.{Layout', counter_place, words_of}

abbrev pub cell_of : ℕ → ℕ
cell_of m = 2 * m

abbrev pub slot_of : ℕ → ℕ
slot_of m = 2 * m + 1

-- whether one of the machine's mutexes is a slot, and of which of our mutexes
abbrev pub is_slot : ℕ → Bool
is_slot k = k % 2 == 1

abbrev pub our_own : ℕ → ℕ
our_own k = k / 2

-- the number of our mutexes
abbrev pub our_mutexes : Layout' → ℕ
our_mutexes l = l.mutexes / 2

-- the condition variable whose counter is at a place
abbrev pub counter_at : Layout' → ℕ → Option ℕ
counter_at l p =
    if nat_le (counter_place l 0) p && nat_lt p (words_of l) then Some (p - counter_place l 0) else None
