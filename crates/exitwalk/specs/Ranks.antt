-- How many accesses a walk still makes, at most.
use Rattle.std.specs.Prelude.{ℕ, ◌+◌, ◌-◌, ◌*◌, ◌==◌, if◌then◌else◌}
use Rattle.posixmutex.specs.Objects.{held_limit}
use Rattle.exitwalk.specs.declared.row.Part.{Part}
use Rattle.exitwalk.specs.declared.row.Part.TheVariants.{List, Pending}
use Rattle.exitwalk.specs.declared.row.Row.{Row}
use Rattle.exitwalk.specs.declared.row.Row.TheVariants.{LoadFirst, LoadOffset, LoadPending}
use Rattle.exitwalk.specs.declared.row.Row.TheVariants.{LoadNext, LoadWord, Mark, WakeOne, Ended}

-- whatever it is answered: five for an entry, four for the pending one
abbrev pub part_left : Part → ℕ
part_left (List r) = 5 * (held_limit - r.loaded) + 4
part_left Pending = 0

abbrev pub accesses_left : Row → ℕ
accesses_left LoadFirst = 5 * held_limit + 7
accesses_left (LoadOffset first) = 5 * held_limit + 6
accesses_left (LoadPending first offset) = 5 * held_limit + 5
accesses_left (LoadNext r) = 5 * (held_limit - r.loaded) + 4
accesses_left (LoadWord at part) = part_left part + 4
accesses_left (Mark at seen again part) = part_left part + (if again then 2 else 3)
accesses_left (WakeOne at part) = part_left part + 1
accesses_left Ended = 0

-- where nobody else writes: an exchange fails only where its word was changed before, so four for an entry, three for
-- the pending one
abbrev pub part_left_alone : Part → ℕ
part_left_alone (List r) = 4 * (held_limit - r.loaded) + 3
part_left_alone Pending = 0

abbrev pub left_alone : (ℕ → ℕ) → Row → ℕ
left_alone words LoadFirst = 4 * held_limit + 6
left_alone words (LoadOffset first) = 4 * held_limit + 5
left_alone words (LoadPending first offset) = 4 * held_limit + 4
left_alone words (LoadNext r) = 4 * (held_limit - r.loaded) + 3
left_alone words (LoadWord at part) = part_left_alone part + 3
left_alone words (Mark at seen again part) =
    part_left_alone part + (if words at == seen then 2 else if again then 1 else 3)
left_alone words (WakeOne at part) = part_left_alone part + 1
left_alone words Ended = 0
