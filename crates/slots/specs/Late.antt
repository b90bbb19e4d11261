-- The layer with a memory that plain stores reach late, as on x86 (x86-TSO).
--
-- Each thread has a buffer: its plain stores that wait, the oldest first. A load finds the youngest of them at its word, or else
-- memory. A locked instruction waits until its thread's buffer is empty, and so does a death. The oldest store of a buffer
-- may reach memory at any moment. All other changes are made in memory: by locked instructions, and by Linux.
use Rattle.std.specs.Prelude.{ℕ, ◌≡◌, ◌≤◌, ◌<◌, ◌==◌, ◌&&◌, not, true, List, [], ◌∷◌, ◌++◌, if◌then◌else◌}
use Rattle.stepprograms.specs.declared.access.Access.{Access}
use Rattle.stepprograms.specs.declared.access.Access.TheVariants as access
use Rattle.memorymap.specs.Layouts.{Layout', IsLayout, cell_place}
use Rattle.protocol.specs.Machine.{has_thread, is_alive, is_asleep, place_met, put}
use Rattle.storebuffers.specs.Buffers.{Store, stored}
use Rattle.slots.specs.Rows.{Choice, Row}
use Rattle.slots.specs.Shown.{Slots, begin, shown}
use Rattle.slots.specs.Table.{made}
use Rattle.slots.specs.Runs.{Happening, made_by, next}
use Rattle.slots.specs.Runs.Happening.{Goes, Dies}
use Rattle.slots.specs.Goes.{who}
use Rattle.slots.specs.Premises.{TrustsIn}
use Rattle.slots.specs.Stores.{IsOwnHere, Manner, manner, stored_by}
use Rattle.slots.specs.Stores.Manner.{Stores, Locks, Along}

-- the layer, as it is once no store waits; memory; and each thread's buffer
pub record Late : Type 0 where
  pub layer : Slots
  pub memory : ℕ → ℕ
  pub buffers : ℕ → List Store

abbrev pub begin_late : Layout' → Late
begin_late l = record { layer = begin l; memory = shown (begin l); buffers = λ t. [] }

-- what a load of thread t finds
abbrev pub found_by : Late → ℕ → ℕ → ℕ
found_by g t = stored (g.buffers t) g.memory

-- a word that the layer shows otherwise is changed in memory
abbrev pub changed : Slots → Slots → (ℕ → ℕ) → ℕ → ℕ
changed x y memory p = if shown y p == shown x p then memory p else shown y p

abbrev pub kept : Late → Slots → Late
kept g y = record { layer = y; memory = changed g.layer y g.memory; buffers = g.buffers }

-- thread t's buffer is emptied before
abbrev pub flushed : Late → ℕ → Slots → Late
flushed g t y =
    record { layer = y; memory = changed g.layer y (stored (g.buffers t) g.memory); buffers = put g.buffers t [] }

-- its store waits
abbrev pub with_store : Late → ℕ → Slots → Access → Late
with_store g t y a = record {
  layer = y;
  memory = g.memory;
  buffers = put g.buffers t (g.buffers t ++ record { at = place_met g.layer.machine.layout t a; value = stored_by a } ∷ []);
}

abbrev pub went : Late → ℕ → Slots → Manner → Access → Late
went g t y Stores a = with_store g t y a
went g t y Along (access.Store at v) = with_store g t y (access.Store at v)
went g t y Locks a = flushed g t y
went g t y m a = kept g y

-- the oldest store of a buffer reaches memory
abbrev pub drained : Late → ℕ → List Store → Late
drained g t [] = g
drained g t (s ∷ ss) = record g { memory = put g.memory s.at s.value; buffers = put g.buffers t ss }

pub data Moment : Type 0 where
  Happens : Happening → Moment
  Drains : ℕ → Moment

abbrev pub late_next : Late → Moment → Late
late_next g (Happens (Goes t c)) =
    if has_thread g.layer.machine t && is_alive (g.layer.machine.threads t).stage && not (is_asleep g.layer.machine t)
    then went g t (made_by g.layer t c (made g.layer t c (g.layer.rows t))) (manner (g.layer.rows t))
    (made g.layer t c (g.layer.rows t)).access
    else g
late_next g (Happens (Dies t)) =
    if has_thread g.layer.machine t && is_alive (g.layer.machine.threads t).stage
    then flushed g t (next g.layer (Dies t))
    else g
late_next g (Happens h) = kept g (next g.layer h)
late_next g (Drains t) = drained g t (g.buffers t)

abbrev pub late_from : Late → List Moment → Late
late_from g [] = g
late_from g (m ∷ ms) = late_from (late_next g m) ms

-- each happening is trusted, as in a run of the layer
abbrev pub AllTrustedLate : Late → List Moment → Type 0
AllTrustedLate g [] = Unit {0}
AllTrustedLate g (Happens h ∷ ms) = ((1 ≤ who h) × (who h ≤ g.layer.machine.layout.threads) × TrustsIn g.layer h)
    × AllTrustedLate (late_next g (Happens h)) ms
AllTrustedLate g (Drains t ∷ ms) = AllTrustedLate (late_next g (Drains t)) ms

-- Whatever waits: a load finds what the layer shows, of each cell and slot, of the thread's own words, and of counters whose
-- mutex it owns. In memory, each cell and each slot is as the layer shows it
pub record FindsTheSame (g : Late) : Type 0 where
  pub own : (t p : ℕ) → 1 ≤ t → t ≤ g.layer.machine.layout.threads → IsOwnHere g.layer.machine t p
      → found_by g t p ≡ shown g.layer p
  pub cells : (t k : ℕ) → k < g.layer.machine.layout.mutexes
      → found_by g t (cell_place g.layer.machine.layout k) ≡ shown g.layer (cell_place g.layer.machine.layout k)
  pub memory : (k : ℕ) → k < g.layer.machine.layout.mutexes
      → g.memory (cell_place g.layer.machine.layout k) ≡ shown g.layer (cell_place g.layer.machine.layout k)

-- so it is in any run, whenever stores reach memory
abbrev pub LateMemoryTellsTheSame : Type 0
LateMemoryTellsTheSame = (l : Layout') (ms : List Moment) → IsLayout l → AllTrustedLate (begin_late l) ms
    → FindsTheSame (late_from (begin_late l) ms)

-- At all rows but these, an access is said to find its word as the layer shows it. Linux compares a count for a wait that has
-- released its mutex, and a late wait looks at the counter. A wake reads no word. The row of a thread that is in none of our
-- calls makes no access
abbrev pub FindsItsWord : Row → Type 0
FindsItsWord Row.Rests = ⊥
FindsItsWord (Row.WaitSleeps m k n timed) = ⊥
FindsItsWord (Row.WaitLate m k n) = ⊥
FindsItsWord (Row.WakesAll m r) = ⊥
FindsItsWord (Row.HeirWakes k) = ⊥
FindsItsWord (Row.WakesOne m y is) = ⊥
FindsItsWord (Row.CountWakes m k n) = ⊥
FindsItsWord r = Unit {0}

abbrev pub FindsIt : Late → ℕ → Access → Type 0
FindsIt g t a =
    found_by g t (place_met g.layer.machine.layout t a) ≡ shown g.layer (place_met g.layer.machine.layout t a)

-- so it is in any run, whatever waits
abbrev pub AccessesFindTheSame : Type 0
AccessesFindTheSame = (l : Layout') (ms : List Moment) (t : ℕ) (c : Choice) → IsLayout l → 1 ≤ t
    → t ≤ (late_from (begin_late l) ms).layer.machine.layout.threads → AllTrustedLate (begin_late l) ms
    → is_alive ((late_from (begin_late l) ms).layer.machine.threads t).stage ≡ true
    → FindsItsWord ((late_from (begin_late l) ms).layer.rows t) → FindsIt (late_from (begin_late l) ms) t
    (made (late_from (begin_late l) ms).layer t c ((late_from (begin_late l) ms).layer.rows t)).access
