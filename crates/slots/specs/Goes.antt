-- Threads stand where their rows say, from one happening to the next.
use Rattle.std.specs.Prelude.{ℕ, ◌≡◌, ◌≢◌, ◌%◌, ◌^◌, ◌<◌, ◌≤◌, true, false, List, [], ◌∷◌}
use Rattle.memorymap.specs.Layouts.{Layout', IsLayout, cell_place, counter_place}
use Rattle.protocol.specs.Machine.{run, is_alive, is_asleep, is_left_to}
use Rattle.slots.specs.Rows.{Choice, Row}
use Rattle.slots.specs.Rows.How.{Tried, Later}
use Rattle.slots.specs.Rows.Then.{ToSlot}
use Rattle.slots.specs.Rows.Giving.{OfUnlock, OfWait}
use Rattle.slots.specs.Places.{cell_of, slot_of}
use Rattle.slots.specs.Shown.{Slots, begin, shown}
use Rattle.slots.specs.Invariant.{fields_at}
use Rattle.slots.specs.Stands.{StandsAs}
use Rattle.slots.specs.Words.{shows_heir}
use Rattle.slots.specs.Seen.{heir_of}
use Rattle.slots.specs.Table.{made}
use Rattle.slots.specs.Accesses.{IsAboutIt, IsAtRow}
use Rattle.slots.specs.Each.{Assumes}
use Rattle.slots.specs.Further.{IsOfCell, OwnsInside}
use Rattle.slots.specs.Runs.{Happening, next, reached}
use Rattle.slots.specs.Runs.Happening.{Calls, Goes, Interrupts, Lapses, Dies, Walks, Lives}
use Rattle.slots.specs.Laws.{IsEvents, IsReached}

-- the thread of which it is
abbrev pub who : Happening → ℕ
who (Calls t r) = t
who (Goes t c) = t
who (Interrupts t) = t
who (Lapses t) = t
who (Dies t) = t
who (Walks t) = t
who (Lives t) = t

-- thread u is at the row where it was, and the machine's thread is where it was
pub record StandsStill (x y : Slots) (u : ℕ) : Type 0 where
  pub row : y.rows u ≡ x.rows u
  pub thread : y.machine.threads u ≡ x.machine.threads u

-- whatever happens to another thread
abbrev pub OthersStandStill : Type 0
OthersStandStill = (x : Slots) (h : Happening) (u : ℕ) → IsReached x.machine → who h ≢ u → StandsStill x (next x h) u

-- ---- a thread's own accesses

-- after its access the machine's thread is where the next row says
abbrev pub LeadsOn : Slots → ℕ → Choice → Row → Type 0
LeadsOn x t c r = StandsAs (made x t c r).next ((run x.machine (made x t c r).events).threads t).stage

-- What a row takes for granted for that, in addition to `Assumes`. A lock announces the cell for the first time in a
-- trylock. It sets WAITERS to take the slot only if it has been there, or has slept. When it has been at the slot, it
-- doesn't own the cell. It frees an unmarked slot without WAITERS. An unlock has seen whether the cell is marked, and a
-- wait what the counter says. If there is an heir, it answers
abbrev pub AssumesToo : Slots → ℕ → Row → Type 0
AssumesToo x t (Row.Pends k v) = k.how ≡ Tried
AssumesToo x t (Row.Marks k v (ToSlot g)) = k.how ≡ Later
AssumesToo x t (Row.SeesToSleep k) = (k.how ≡ Later) × ((fields_at x.machine (cell_of k.mutex)).owner ≢ t)
AssumesToo x t (Row.WaitLooks m k timed) = IsOfCell x.machine.layout m k × (cell_of m < x.machine.layout.mutexes)
AssumesToo x t (Row.WaitCounts m k timed true) =
    IsOfCell x.machine.layout m k × OwnsInside x.machine t (cell_of m) × ((fields_at x.machine (cell_of m)).died ≡ true)
AssumesToo x t (Row.CountLooks m k all) = IsOfCell x.machine.layout m k × (cell_of m < x.machine.layout.mutexes)
AssumesToo x t (Row.GivePends m (OfWait k n slept timed)) = n ≡ x.machine.words (counter_place x.machine.layout k) % 2 ^ 32
AssumesToo x t (Row.Frees k f) = (fields_at x.machine (slot_of k.mutex)).died ≡ false
AssumesToo x t (Row.GivePends m (OfUnlock d)) = (fields_at x.machine (cell_of m)).died ≡ d
AssumesToo x t (Row.FreeGives k f) = (fields_at x.machine (slot_of k.mutex)).waiters ≡ false
AssumesToo x t (Row.HandsOn m g is) =
    shows_heir (shown x (cell_place x.machine.layout (slot_of m))) ≡ true
    → is_left_to x.machine t (cell_of m) (heir_of x.machine t (cell_of m)) ≡ true
AssumesToo x t (Row.LooksBack m g is) = cell_of m < x.machine.layout.mutexes
AssumesToo x t r = Unit {0}

abbrev pub RowsLeadOn : Type 0
RowsLeadOn = (x : Slots) (t : ℕ) (c : Choice) → IsAtRow x t → Assumes x t (x.rows t) → AssumesToo x t (x.rows t)
    → LeadsOn x t c (x.rows t)

-- ---- from happening to happening

-- a thread that lives is where its row says
abbrev pub IsAtItsRow : Slots → ℕ → Type 0
IsAtItsRow x t = is_alive (x.machine.threads t).stage ≡ true → StandsAs (x.rows t) (x.machine.threads t).stage

-- a lock that sleeps with a deadline has been to the slot, or has slept before: the lock that ends a wait has no deadline
abbrev pub SleepsLater : Row → Type 0
SleepsLater (Row.Asleep k) = k.timed ≡ true → k.how ≡ Later
SleepsLater r = Unit {0}

-- What a happening takes for granted. At an access, the machine's call is about the row's mutex, and what the row assumes
-- is so. At a timeout, it is known which lock sleeps. A dead thread is in none of our calls
abbrev pub Grants : Slots → Happening → Type 0
Grants x (Goes t c) =
    IsAboutIt x.machine.layout (x.rows t) (x.machine.threads t).stage × Assumes x t (x.rows t) × AssumesToo x t (x.rows t)
Grants x (Lapses t) = SleepsLater (x.rows t)
Grants x (Lives t) = is_alive (x.machine.threads t).stage ≡ false → x.rows t ≡ Row.Rests
Grants x h = Unit {0}

-- whatever happens to a thread, it is at its row afterwards, if it lives
abbrev pub ThreadsKeepTheirRows : Type 0
ThreadsKeepTheirRows = (x : Slots) (h : Happening) → IsReached x.machine → 1 ≤ who h → who h ≤ x.machine.layout.threads
    → Grants x h → IsAtItsRow x (who h) → IsAtItsRow (next x h) (who h)

-- ---- runs

-- each happening of the run is of one of the layout's threads, and has what it takes for granted
abbrev pub AllGranted : Slots → List Happening → Type 0
AllGranted x [] = Unit {0}
AllGranted x (h ∷ hs) = ((1 ≤ who h) × (who h ≤ x.machine.layout.threads) × Grants x h) × AllGranted (next x h) hs

-- then all threads that live are at their rows after the run
abbrev pub RunsKeepTheirRows : Type 0
RunsKeepTheirRows = (l : Layout') (hs : List Happening) (t : ℕ) → IsLayout l → 1 ≤ t → t ≤ l.threads → AllGranted (begin l) hs
    → IsAtItsRow (reached l hs) t

-- so each access of such a run is the events that the table has: of a thread that lives and is awake, if its row has what
-- it takes for granted
abbrev pub AccessesOfRunsAreEvents : Type 0
AccessesOfRunsAreEvents = (l : Layout') (hs : List Happening) (t : ℕ) (c : Choice) → IsLayout l → 1 ≤ t → t ≤ l.threads
    → AllGranted (begin l) hs → Grants (reached l hs) (Goes t c)
    → is_alive ((reached l hs).machine.threads t).stage ≡ true → is_asleep (reached l hs).machine t ≡ false
    → IsEvents (reached l hs) t c
