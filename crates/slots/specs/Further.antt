-- More rows whose access is the events that the table has: whole rows, whatever the access finds, and several events.
use Rattle.std.specs.Prelude.{ℕ, ◌≡◌, ◌≢◌, ◌<◌, ◌+◌, ◌*◌, true, false, [], length, slice_index}
use Rattle.lockword.specs.Cells.{fields_of, waiters_alone}
use Rattle.memorymap.specs.Layouts.{Layout', cell_place, counter_place}
use Rattle.protocol.specs.Machine.{State}
use Rattle.slots.specs.Places.{cell_of, slot_of}
use Rattle.slots.specs.Rows.{Choice, How, Row}
use Rattle.slots.specs.Rows.How.{Tried, Later, Waited}
use Rattle.slots.specs.Rows.Giving.{OfUnlock, OfWait}
use Rattle.slots.specs.Shown.{Slots, shown}
use Rattle.slots.specs.Invariant.{fields_at, HasRoom, KnowsTurn}
use Rattle.slots.specs.Laws.{IsEvents}
use Rattle.slots.specs.Accesses.{IsAtRow}

-- ---- an unlock or a wait that releases

-- condition variable k is the layout's, and its mutex is cell m
pub record IsOfCell (l : Layout') (m k : ℕ) : Type 0 where
  pub inside : k < length l.conditions
  pub cell : slice_index l.conditions k ≡ cell_of m

-- thread t owns mutex k, which is one of the layout
pub record OwnsInside (s : State) (t k : ℕ) : Type 0 where
  pub inside : k < s.layout.mutexes
  pub owner : (fields_at s k).owner ≡ t

-- at these rows a release is announced: the thread owns the slot, or the cell; and a wait's mutex is consistent
abbrev pub IsToRelease : Slots → ℕ → Row → Type 0
IsToRelease x t (Row.Frees k f) = OwnsInside x.machine t (slot_of k.mutex)
IsToRelease x t (Row.GivePends m (OfUnlock d)) = OwnsInside x.machine t (cell_of m)
IsToRelease x t (Row.GivePends m (OfWait k n slept timed)) =
    IsOfCell x.machine.layout m k × OwnsInside x.machine t (cell_of m) × ((fields_at x.machine (cell_of m)).died ≡ false)
IsToRelease x t r = ⊥

-- the store is the beginning of the unlock or the wait, its looks at the mutex's word and at the counter, and its announcement;
-- and before that the end of the last call, if that has still to clear what it had pending
abbrev pub AnnouncedReleasesAreEvents : Type 0
AnnouncedReleasesAreEvents = (x : Slots) (t : ℕ) (c : Choice) → IsAtRow x t → IsToRelease x t (x.rows t) → IsEvents x t c

-- ---- a call's first look

-- at these rows a call looks for the first time, and may be refused. A thread that owns 2,048 mutexes may not lock
abbrev pub IsFirstLook : Slots → ℕ → Row → Type 0
IsFirstLook x t (Row.Looks k) = (cell_of k.mutex < x.machine.layout.mutexes) × ((x.machine.threads t).held < 2048)
IsFirstLook x t (Row.TryLooks m) = (cell_of m < x.machine.layout.mutexes) × ((x.machine.threads t).held < 2048)
IsFirstLook x t (Row.GiveLooks m) = cell_of m < x.machine.layout.mutexes
IsFirstLook x t (Row.MendLooks m) = cell_of m < x.machine.layout.mutexes
IsFirstLook x t (Row.WaitLooks m k timed) = k < length x.machine.layout.conditions
IsFirstLook x t (Row.WaitCounts m k timed died) = k < length x.machine.layout.conditions
IsFirstLook x t (Row.CountLooks m k all) = k < length x.machine.layout.conditions
IsFirstLook x t r = ⊥

-- whatever it finds: a refused call is a whole call of the machine, and leaves memory as it was
abbrev pub FirstLooksAreEvents : Type 0
FirstLooksAreEvents = (x : Slots) (t : ℕ) (c : Choice) → IsAtRow x t → IsFirstLook x t (x.rows t) → IsEvents x t c

-- ---- a look that decides

-- memory shows another word of mutex k of the machine than v
abbrev pub FindsOther : Slots → ℕ → ℕ → Type 0
FindsOther x k v = shown x (cell_place x.machine.layout k) ≢ v

-- a lock that looks at the cell, or begins again and then looks: its mutex is the layout's, and it may take one
pub record MayTake (x : Slots) (t m : ℕ) : Type 0 where
  pub inside : cell_of m < x.machine.layout.mutexes
  pub room : (x.machine.threads t).held < 2048

-- the lock that ends a wait keeps away from the slot
abbrev pub GoesToSlot : How → Type 0
GoesToSlot Tried = Unit {0}
GoesToSlot Later = Unit {0}
GoesToSlot (Waited z) = ⊥

-- at these rows a lock looks, by a load or by an exchange that finds another word than it expects. An heir doesn't own
-- the cell when it looks for the last time
abbrev pub IsDeciding : Slots → ℕ → Row → Type 0
IsDeciding x t (Row.Sees k) = MayTake x t k.mutex
IsDeciding x t (Row.SeesToSleep k) = MayTake x t k.mutex
IsDeciding x t (Row.SeesAgain k v) = MayTake x t k.mutex × GoesToSlot k.how
IsDeciding x t (Row.LastLooks k) = MayTake x t k.mutex × ((fields_at x.machine (cell_of k.mutex)).owner ≢ t)
IsDeciding x t (Row.Takes k v) = MayTake x t k.mutex × FindsOther x (cell_of k.mutex) v
IsDeciding x t (Row.Marks k v n) = MayTake x t k.mutex × FindsOther x (cell_of k.mutex) v
IsDeciding x t (Row.TryTakes m v) = MayTake x t m × FindsOther x (cell_of m) v
IsDeciding x t (Row.SlotTakes k g) = (slot_of k.mutex < x.machine.layout.mutexes) × FindsOther x (slot_of k.mutex) g
IsDeciding x t r = ⊥

-- whatever it finds: the machine's call looks, or sleeps and times out, or begins again and then looks; and memory and
-- queues stay as they are
abbrev pub DecidingLooksAreEvents : Type 0
DecidingLooksAreEvents = (x : Slots) (t : ℕ) (c : Choice) → IsAtRow x t → IsDeciding x t (x.rows t) → IsEvents x t c

-- ---- a sleep

-- in the word v that thread t has seen, another thread owns the mutex, and WAITERS is set
pub record SeesAnother (t v : ℕ) : Type 0 where
  pub some : (fields_of v).owner ≢ 0
  pub other : (fields_of v).owner ≢ t
  pub waiters : (fields_of v).waiters ≡ true

abbrev pub IsSleeping : Slots → ℕ → Row → Type 0
IsSleeping x t (Row.SleepsOn k v) = MayTake x t k.mutex × SeesAnother t v
IsSleeping x t (Row.WaitSleeps m k n timed) = Unit {0}
IsSleeping x t r = ⊥

-- a sleep on the cell or on a counter, whether it comes or not
abbrev pub SleepsAreEvents : Type 0
SleepsAreEvents = (x : Slots) (t : ℕ) (c : Choice) → IsAtRow x t → IsSleeping x t (x.rows t) → IsEvents x t c

-- ---- a broadcast's move, and a wake that is spared

abbrev pub IsMoving : Row → Type 0
IsMoving (Row.AllMoves m k n) = Unit {0}
IsMoving r = ⊥

-- all who sleep on the counter come to sleep on the cell, if the count is still as it was left
abbrev pub MovesAreEvents : Type 0
MovesAreEvents = (x : Slots) (t : ℕ) (c : Choice) → IsAtRow x t → IsMoving (x.rows t) → IsEvents x t c

abbrev pub IsHanding : Row → Type 0
IsHanding (Row.HandsOn m g is) = Unit {0}
IsHanding (Row.LooksBack m g is) = Unit {0}
IsHanding r = ⊥

-- after a release, a look at the slot and one at the cell change nothing, whether the wake is left to the heir, or to the
-- cell's owner, or to nobody
abbrev pub SparesAreEvents : Type 0
SparesAreEvents = (x : Slots) (t : ℕ) (c : Choice) → IsAtRow x t → IsHanding (x.rows t) → IsEvents x t c

-- ---- WAITERS is set

-- memory shows the word v of mutex m's cell, which another thread owns, without WAITERS
pub record SeesUnmarked (x : Slots) (t m v : ℕ) : Type 0 where
  pub found : shown x (cell_place x.machine.layout (cell_of m)) ≡ v
  pub some : (fields_of v).owner ≢ 0
  pub other : (fields_of v).owner ≢ t
  pub waiters : (fields_of v).waiters ≡ false

abbrev pub IsMarking : Slots → ℕ → Row → Type 0
IsMarking x t (Row.Marks k v n) = MayTake x t k.mutex × SeesUnmarked x t k.mutex v
IsMarking x t (Row.LastMarks k v) = MayTake x t k.mutex × SeesUnmarked x t k.mutex v
IsMarking x t (Row.AllMarks m k n) = Unit {0}
IsMarking x t r = ⊥

-- the exchange of a lock that finds the word that it expects, and the operation of a broadcast: the word is the same with
-- WAITERS, and queues stay. A lock of the machine sets WAITERS, sleeps and times out, or is about to sleep
abbrev pub MarksAreEvents : Type 0
MarksAreEvents = (x : Slots) (t : ℕ) (c : Choice) → IsAtRow x t → IsMarking x t (x.rows t) → IsEvents x t c

-- ---- a mutex is declared consistent, is reinitialised, or loses WAITERS

-- thread t owns mutex k, which is marked. The word has 64 bits: in the machine no more than its lower half is used, and
-- what is above AWAKE has 31 bits
pub record OwnsMarked (x : Slots) (t k : ℕ) : Type 0 where
  pub inside : k < x.machine.layout.mutexes
  pub owner : (fields_at x.machine k).owner ≡ t
  pub died : (fields_at x.machine k).died ≡ true
  pub small : x.machine.words (cell_place x.machine.layout k) < 0x1_0000_0000
  pub few : x.turns k < 0x8000_0000

-- memory shows the word v of mutex k, which is unusable, and has no OWNER_DIED
pub record FindsUnusable (x : Slots) (k v : ℕ) : Type 0 where
  pub inside : k < x.machine.layout.mutexes
  pub found : shown x (cell_place x.machine.layout k) ≡ v
  pub unusable : (fields_of v).unusable ≡ true
  pub died : (fields_at x.machine k).died ≡ false
  pub room : HasRoom x.machine k

abbrev pub IsMending : Slots → ℕ → Row → Type 0
IsMending x t (Row.SlotMends k) = OwnsMarked x t (slot_of k.mutex)
IsMending x t (Row.Mends m) = OwnsMarked x t (cell_of m)
IsMending x t (Row.Anews m v) = FindsUnusable x (cell_of m) v
IsMending x t r = ⊥

abbrev pub MendsAreEvents : Type 0
MendsAreEvents = (x : Slots) (t : ℕ) (c : Choice) → IsAtRow x t → IsMending x t (x.rows t) → IsEvents x t c

-- The call's release left WAITERS alone, with the turn of then; it knows what it does of the turn since
pub record KnowsItsWord (x : Slots) (m is : ℕ) : Type 0 where
  pub inside : cell_of m < x.machine.layout.mutexes
  pub room : HasRoom x.machine (cell_of m)
  pub knows : KnowsTurn x (Row.Trims m is)
  pub turn : ℕ
  pub left : is ≡ waiters_alone + turn * 0x2_0000_0000

abbrev pub IsTrimming : Slots → Row → Type 0
IsTrimming x (Row.Trims m is) = KnowsItsWord x m is
IsTrimming x r = ⊥

-- the exchange is the machine's trim, which clears the word, or is declined
abbrev pub TrimsAreEvents : Type 0
TrimsAreEvents = (x : Slots) (t : ℕ) (c : Choice) → IsAtRow x t → IsTrimming x (x.rows t) → IsEvents x t c

-- ---- counters

-- condition variable k is the layout's, and in the machine its counter says n
pub record SaysCount (x : Slots) (k n : ℕ) : Type 0 where
  pub inside : k < length x.machine.layout.conditions
  pub says : x.machine.words (counter_place x.machine.layout k) ≡ n

-- A signal or broadcast is about to count. It has seen the counter's word, whose count isn't the largest; and without SLEPT
-- nobody sleeps there
pub record MayCount (x : Slots) (t m k n : ℕ) : Type 0 where
  pub inside : k < length x.machine.layout.conditions
  pub cell : slice_index x.machine.layout.conditions k ≡ cell_of m
  pub owns : OwnsInside x.machine t (cell_of m)
  pub found : shown x (counter_place x.machine.layout k) ≡ n
  pub few : x.machine.words (counter_place x.machine.layout k) < 0xffff_ffff
  pub quiet : x.slept k ≡ false → x.machine.queues (counter_place x.machine.layout k) ≡ []

abbrev pub IsCounting : Slots → ℕ → Row → Type 0
IsCounting x t (Row.WaitSets m k n timed) = SaysCount x k n
IsCounting x t (Row.Counts m k all n) = MayCount x t m k n
IsCounting x t (Row.Unsets m k n) = SaysCount x k n
IsCounting x t r = ⊥

-- a store of the counter's word is a count, by a signal or a broadcast of the machine, or changes SLEPT alone
abbrev pub CountsAreEvents : Type 0
CountsAreEvents = (x : Slots) (t : ℕ) (c : Choice) → IsAtRow x t → IsCounting x t (x.rows t) → IsEvents x t c
