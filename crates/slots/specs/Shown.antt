-- The state of the layer, and what memory shows of it. A cell or a slot is shown as the machine's word with more bits above.
use Rattle.std.specs.Prelude.{ℕ, ◌+◌, ◌*◌, ◌&&◌, ◌||◌, not, Bool, false, Option, Some, None, List, [], ◌∷◌, if◌then◌else◌}
use Rattle.lockword.specs.Cells.{bit}
use Rattle.memorymap.specs.Layouts.{Layout'}
use Rattle.protocol.specs.declared.event.Event.{Event}
use Rattle.protocol.specs.Machine.{State, start, happens, run, mutex_at, is_owned, is_unusable}
use Rattle.slots.specs.Places.{is_slot, our_own, counter_at}
use Rattle.slots.specs.Rows.{Row}
use Rattle.slots.specs.Rows.Row.{Rests}

-- the machine; what is above the flags of each of its mutexes: how often it was taken or reinitialised (its turn), but in
-- a slot, since an heir has said that it is awake, the time of that; AWAKE of each of our slots; SLEPT of each condition
-- variable; the row of each thread; and whether its wait is overdue
pub record Slots : Type 0 where
  pub machine : State
  pub turns : ℕ → ℕ
  pub awake : ℕ → Bool
  pub slept : ℕ → Bool
  pub rows : ℕ → Row
  pub overdue : ℕ → Bool

-- at first memory is zeros
abbrev pub begin : Layout' → Slots
begin l =
    record { machine = start l (λ c. 0); turns = λ k. 0; awake = λ m. false; slept = λ c. false; rows = λ t. Rests; overdue = λ t. false }

-- ---- what memory shows

-- AWAKE, a slot's bit 32: no slot is ever unusable
abbrev pub shows_awake : Slots → ℕ → Bool
shows_awake x k = is_slot k && x.awake (our_own k)

-- the turn of mutex k is above the 33 bits of the machine's word
abbrev pub shown_mutex : Slots → ℕ → ℕ → ℕ
shown_mutex x k w = w + bit (shows_awake x k) 0x1_0000_0000 + x.turns k * 0x2_0000_0000

-- SLEPT is above a counter's 32 bits
abbrev pub shown_counter : Slots → ℕ → ℕ → ℕ
shown_counter x c w = w + bit (x.slept c) 0x1_0000_0000

abbrev pub shown_as : Slots → Option ℕ → Option ℕ → ℕ → ℕ
shown_as x (Some k) o w = shown_mutex x k w
shown_as x None (Some c) w = shown_counter x c w
shown_as x None None w = w

-- heads and links are the machine's
abbrev pub shown : Slots → ℕ → ℕ
shown x p = shown_as x (mutex_at x.machine.layout p) (counter_at x.machine.layout p) (x.machine.words p)

-- memory and its sleepers, as the C library's accesses meet them
abbrev pub memory : Slots → State
memory x = record x.machine { words = shown x }

-- ---- turns

-- mutex k was taken, or reinitialised
abbrev pub took : State → State → ℕ → Bool
took s s' k = (not (is_owned s k) && is_owned s' k) || (is_unusable s k && not (is_unusable s' k))

abbrev pub turned : State → State → (ℕ → ℕ) → ℕ → ℕ
turned s s' turns k = if took s s' k then turns k + 1 else turns k

-- by each of these events
abbrev pub turned_by : State → List Event → (ℕ → ℕ) → ℕ → ℕ
turned_by s [] turns = turns
turned_by s (e ∷ es) turns = turned_by (happens s e).state es (turned s (happens s e).state turns)

-- these events happen at one moment
abbrev pub after : Slots → List Event → Slots
after x es = record x { machine = run x.machine es; turns = turned_by x.machine es x.turns }
