-- A call that runs alone goes on: after few accesses it returns, or sleeps.
--
-- Some looks are made again as long as clocks and hints say so: at a slot that is about to change hands, for an heir after a
-- release, and by an heir at the cell. Also, an heir may leave a free mutex to the thread that takes it again and again. Each
-- of these makes the call longer, by few accesses. In the C library a count or a clock ends them (`heir.c`: MOST_LOOKS,
-- MOST_LOOKS_INSIDE, MOST_LOOKS_AWAKE, FAIR).
use Rattle.std.specs.Prelude.{ℕ, ◌≡◌, ◌≤◌, ◌+◌, ◌*◌, ◌==◌, ◌||◌, not, Bool, true, List, [], ◌∷◌, length, map, if◌then◌else◌}
use Rattle.lockword.specs.Cells.{fields_of}
use Rattle.memorymap.specs.Layouts.{Layout', IsLayout, cell_place}
use Rattle.protocol.specs.Machine.{is_asleep}
use Rattle.slots.specs.Places.{cell_of}
use Rattle.slots.specs.Rows.{Choice, Row}
use Rattle.slots.specs.Shown.{Slots, begin, shown}
use Rattle.slots.specs.Runs.{Happening, is_resting, next, reached}
use Rattle.slots.specs.Runs.Happening.{Goes}
use Rattle.slots.specs.Premises.{AllTrusted}

-- clocks and hints don't ask for another look here, and let an heir take a mutex that it finds free
abbrev pub goes_on : Slots → Row → Choice → Bool
goes_on x (Row.Chooses k v) c = not c.again
goes_on x (Row.GiveFinds m y) c = not c.again
goes_on x (Row.HeirLooks k) c =
    (fields_of (shown x (cell_place x.machine.layout (cell_of k.mutex)))).unusable
    || (if (fields_of (shown x (cell_place x.machine.layout (cell_of k.mutex)))).owner == 0 then c.yes else not c.again)
goes_on x r c = true

-- thread t is in no call, or sleeps
abbrev pub has_come_to_rest : Slots → ℕ → Bool
has_come_to_rest x t = is_resting (x.rows t) || is_asleep x.machine t

-- ---- alone

-- thread t makes its accesses, with these choices, and nothing else happens
abbrev pub goes_alone : ℕ → List Choice → List Happening
goes_alone t cs = map (Goes t) cs

-- how many of them do ask
abbrev pub looks_again : Slots → ℕ → List Choice → ℕ
looks_again x t [] = 0
looks_again x t (c ∷ cs) = (if goes_on x (x.rows t) c then 0 else 1) + looks_again (next x (Goes t c)) t cs

-- before one of these accesses, or after all of them, it has come to rest
abbrev pub comes_to_rest : Slots → ℕ → List Choice → Bool
comes_to_rest x t [] = has_come_to_rest x t
comes_to_rest x t (c ∷ cs) = has_come_to_rest x t || comes_to_rest (next x (Goes t c)) t cs

-- This many accesses a call makes alone, at most; and as many after each of those looks
abbrev pub most_accesses : ℕ
most_accesses = 63

-- after any run
abbrev pub LoneCallsComeToRest : Type 0
LoneCallsComeToRest = (l : Layout') (hs : List Happening) (t : ℕ) (cs : List Choice) → IsLayout l → 1 ≤ t → t ≤ l.threads
    → AllTrusted (begin l) hs → AllTrusted (reached l hs) (goes_alone t cs)
    → most_accesses * (1 + looks_again (reached l hs) t cs) ≤ length cs → comes_to_rest (reached l hs) t cs ≡ true
