-- Each access of the C library is the events that the table has for it, whatever it finds.
use Rattle.std.specs.Prelude.{ℕ, ◌≡◌, ◌≢◌, ◌<◌, true, false}
use Rattle.lockword.specs.Cells.{fields_of}
use Rattle.memorymap.specs.Layouts.{cell_place}
use Rattle.slots.specs.Places.{cell_of, slot_of}
use Rattle.slots.specs.Rows.{Choice, Row}
use Rattle.slots.specs.Rows.Before.{Linked, Mended}
use Rattle.slots.specs.Shown.{Slots}
use Rattle.slots.specs.Words.{is_free}
use Rattle.slots.specs.Invariant.{fields_at, HasRoom}
use Rattle.slots.specs.Laws.{IsEvents}
use Rattle.slots.specs.Accesses.{IsAtRow, IsGiven}
use Rattle.slots.specs.Further.{GoesToSlot, IsCounting, IsFirstLook, IsSleeping, IsToRelease, IsTrimming, MayTake, OwnsMarked}

-- ---- what a row takes for granted

-- an exchange is about to take mutex m's cell, and has seen the word v there: it was free
pub record IsToTake (x : Slots) (m v : ℕ) : Type 0 where
  pub free : is_free v ≡ true
  pub room : HasRoom x.machine (cell_of m)

-- one is about to take the slot, and has seen the word g there: nobody owned it
pub record IsToTakeSlot (x : Slots) (m g : ℕ) : Type 0 where
  pub inside : slot_of m < x.machine.layout.mutexes
  pub nobody : (fields_of g).owner ≡ 0
  pub usable : (fields_at x.machine (slot_of m)).unusable ≡ false
  pub room : HasRoom x.machine (slot_of m)

-- a lock is about to set WAITERS, and has seen the word v: another thread owned the mutex, without WAITERS
pub record IsToMark (t v : ℕ) : Type 0 where
  pub some : (fields_of v).owner ≢ 0
  pub other : (fields_of v).owner ≢ t
  pub waiters : (fields_of v).waiters ≡ false

-- a reinit has seen the word v, which is unusable; and while the mutex is unusable, it has no OWNER_DIED
pub record IsToRemake (x : Slots) (m v : ℕ) : Type 0 where
  pub inside : cell_of m < x.machine.layout.mutexes
  pub unusable : (fields_of v).unusable ≡ true
  pub died : (fields_at x.machine (cell_of m)).unusable ≡ true → (fields_at x.machine (cell_of m)).died ≡ false
  pub room : HasRoom x.machine (cell_of m)

-- an heir is about to say that it is awake: the slot's word has its owner alone
pub record HasSlotAlone (x : Slots) (t m : ℕ) : Type 0 where
  pub inside : slot_of m < x.machine.layout.mutexes
  pub word : x.machine.words (cell_place x.machine.layout (slot_of m)) ≡ t

-- AWAKE is about to be cleared: the machine uses the lower half of the slot's word alone, and the time has 31 bits
pub record SlotIsSmall (x : Slots) (m : ℕ) : Type 0 where
  pub inside : slot_of m < x.machine.layout.mutexes
  pub small : x.machine.words (cell_place x.machine.layout (slot_of m)) < 0x1_0000_0000
  pub few : x.turns (slot_of m) < 0x8000_0000

abbrev pub Assumes : Slots → ℕ → Row → Type 0
Assumes x t (Row.Pends k v) = MayTake x t k.mutex
Assumes x t (Row.Sees k) = MayTake x t k.mutex
Assumes x t (Row.Takes k v) = MayTake x t k.mutex × IsToTake x k.mutex v
Assumes x t (Row.SeesAgain k v) = MayTake x t k.mutex × GoesToSlot k.how
Assumes x t (Row.Marks k v n) = MayTake x t k.mutex × IsToMark t v
Assumes x t (Row.SlotPends k g) = (slot_of k.mutex < x.machine.layout.mutexes) × ((x.machine.threads t).held < 2048)
Assumes x t (Row.SlotTakes k g) = IsToTakeSlot x k.mutex g
Assumes x t (Row.SlotLeft k) = MayTake x t k.mutex
Assumes x t (Row.SeesToSleep k) = MayTake x t k.mutex
Assumes x t (Row.SlotQuiets k) = SlotIsSmall x k.mutex
Assumes x t (Row.SlotMends k) = OwnsMarked x t (slot_of k.mutex)
Assumes x t (Row.HeirPends k Linked) = MayTake x t k.mutex
Assumes x t (Row.HeirPends k Mended) = MayTake x t k.mutex
Assumes x t (Row.HeirSets k) = HasSlotAlone x t k.mutex
Assumes x t (Row.HeirTakes k v) = MayTake x t k.mutex × IsToTake x k.mutex v
Assumes x t (Row.HeirHas k r) = SlotIsSmall x k.mutex
Assumes x t (Row.GivesUp k) = SlotIsSmall x k.mutex
Assumes x t (Row.LastLooks k) = MayTake x t k.mutex × ((fields_at x.machine (cell_of k.mutex)).owner ≢ t)
Assumes x t (Row.LastMarks k v) = MayTake x t k.mutex × IsToMark t v
Assumes x t (Row.TryPends m v) = MayTake x t m
Assumes x t (Row.TryTakes m v) = MayTake x t m × IsToTake x m v
Assumes x t (Row.Anews m v) = IsToRemake x m v
Assumes x t (Row.Mends m) = OwnsMarked x t (cell_of m)
-- a first look, a release, a sleep, a trim, a store of a counter
Assumes x t (Row.Looks k) = IsFirstLook x t (Row.Looks k)
Assumes x t (Row.TryLooks m) = IsFirstLook x t (Row.TryLooks m)
Assumes x t (Row.GiveLooks m) = IsFirstLook x t (Row.GiveLooks m)
Assumes x t (Row.MendLooks m) = IsFirstLook x t (Row.MendLooks m)
Assumes x t (Row.WaitLooks m k timed) = IsFirstLook x t (Row.WaitLooks m k timed)
Assumes x t (Row.WaitCounts m k timed died) = IsFirstLook x t (Row.WaitCounts m k timed died)
Assumes x t (Row.CountLooks m k all) = IsFirstLook x t (Row.CountLooks m k all)
Assumes x t (Row.Frees k f) = IsToRelease x t (Row.Frees k f)
Assumes x t (Row.GivePends m y) = IsToRelease x t (Row.GivePends m y)
Assumes x t (Row.FreeGives k f) = IsGiven x t (Row.FreeGives k f)
Assumes x t (Row.Gives m y) = IsGiven x t (Row.Gives m y)
Assumes x t (Row.SleepsOn k v) = IsSleeping x t (Row.SleepsOn k v)
Assumes x t (Row.Trims m is) = IsTrimming x (Row.Trims m is)
Assumes x t (Row.WaitSets m k n timed) = IsCounting x t (Row.WaitSets m k n timed)
Assumes x t (Row.Counts m k all n) = IsCounting x t (Row.Counts m k all n)
Assumes x t (Row.Unsets m k n) = IsCounting x t (Row.Unsets m k n)
-- the others assume nothing but where their thread is
Assumes x t r = Unit {0}

-- at every row, whatever the access finds, and however hints and clocks choose: memory and queues are afterwards what the
-- access makes of them
abbrev pub EachAccessIsEvents : Type 0
EachAccessIsEvents = (x : Slots) (t : ℕ) (c : Choice) → IsAtRow x t → Assumes x t (x.rows t) → IsEvents x t c
