-- What a row says on its own: its mutex and its condition variable are the layout's, and the words that its call has seen
-- say what led the call there.
use Rattle.std.specs.Prelude.{ℕ, ◌≡◌, ◌≢◌, ◌<◌, true, false}
use Rattle.lockword.specs.Cells.{fields_of}
use Rattle.memorymap.specs.Layouts.{Layout'}
use Rattle.slots.specs.Places.{cell_of, our_mutexes}
use Rattle.slots.specs.Rows.{Choice, Taking, Then, Giving, Row}
use Rattle.slots.specs.Rows.How.{Tried, Later, Waited}
use Rattle.slots.specs.Rows.Then.{ToSleep, ToSlot}
use Rattle.slots.specs.Rows.Giving.{OfUnlock, OfWait}
use Rattle.slots.specs.Shown.{Slots}
use Rattle.slots.specs.Words.{is_free}
use Rattle.slots.specs.Table.{made}
use Rattle.slots.specs.Invariant.{fields_at}
use Rattle.slots.specs.Further.{GoesToSlot, IsOfCell, SeesAnother}
use Rattle.slots.specs.Accesses.{IsAbout}
use Rattle.slots.specs.Each.{IsToMark}
use Rattle.protocol.specs.declared.thread.Stage.{Stage}

-- mutex m is one of ours: the machine has its cell and its slot
abbrev pub IsOurs : Layout' → ℕ → Type 0
IsOurs l m = m < our_mutexes l

-- mutex m is one of ours, and condition variable k is one of the layout, of this mutex
pub record AreOfUs (l : Layout') (m k : ℕ) : Type 0 where
  pub ours : IsOurs l m
  pub cell : IsOfCell l m k

-- a lock is of one of our mutexes; the lock that ends a wait has no deadline, and its condition variable is of that mutex
pub record LocksOurs (l : Layout') (k : Taking) : Type 0 where
  pub ours : IsOurs l k.mutex
  pub wait : (z : ℕ) → k.how ≡ Waited z → (k.timed ≡ false) × IsOfCell l k.mutex z

-- in the word v that thread t has seen, another thread owns the mutex
pub record SeesOwned (t v : ℕ) : Type 0 where
  pub some : (fields_of v).owner ≢ 0
  pub other : (fields_of v).owner ≢ t

abbrev pub GivesOurs : Layout' → ℕ → Giving → Type 0
GivesOurs l m (OfUnlock d) = IsOurs l m
GivesOurs l m (OfWait k n slept timed) = AreOfUs l m k

-- WAITERS is to be set; and to take the slot, only if the lock has been there or has slept, and saw it free
abbrev pub FitsToMark : Taking → ℕ → ℕ → Then → Type 0
FitsToMark k t v ToSleep = IsToMark t v
FitsToMark k t v (ToSlot g) = IsToMark t v × (k.how ≡ Later) × ((fields_of g).owner ≡ 0)

-- Thread t's row, and where the machine's thread is: only if a call is to wake all, that call has to be about the row's mutex
abbrev pub Fits : Layout' → ℕ → Row → Stage → Type 0
Fits l t (Row.Looks k) g = LocksOurs l k × (k.how ≡ Tried)
Fits l t (Row.Pends k v) g = LocksOurs l k × (k.how ≡ Tried)
Fits l t (Row.Sees k) g = LocksOurs l k
Fits l t (Row.Takes k v) g = LocksOurs l k × (is_free v ≡ true)
Fits l t (Row.Chooses k v) g = LocksOurs l k × SeesOwned t v
Fits l t (Row.SeesAgain k v) g = LocksOurs l k × GoesToSlot k.how
Fits l t (Row.Marks k v n) g = LocksOurs l k × FitsToMark k t v n
Fits l t (Row.SleepsOn k v) g = LocksOurs l k × SeesAnother t v
Fits l t (Row.Asleep k) g = LocksOurs l k × (k.timed ≡ true → k.how ≡ Later)
Fits l t (Row.Late k) g = LocksOurs l k
Fits l t (Row.LateSees k) g = LocksOurs l k
Fits l t (Row.SlotPends k v) g = LocksOurs l k × GoesToSlot k.how × ((fields_of v).owner ≡ 0)
Fits l t (Row.SlotTakes k v) g = LocksOurs l k × ((fields_of v).owner ≡ 0)
Fits l t (Row.SlotLeft k) g = LocksOurs l k
Fits l t (Row.SeesToSleep k) g = LocksOurs l k × (k.how ≡ Later)
Fits l t (Row.SlotLinks k d) g = LocksOurs l k
Fits l t (Row.SlotClears k) g = LocksOurs l k
Fits l t (Row.SlotQuiets k) g = LocksOurs l k
Fits l t (Row.SlotMends k) g = LocksOurs l k
Fits l t (Row.HeirPends k b) g = LocksOurs l k
Fits l t (Row.HeirSets k) g = LocksOurs l k
Fits l t (Row.HeirLooks k) g = LocksOurs l k
Fits l t (Row.HeirPendsOn k v over) g = LocksOurs l k
Fits l t (Row.HeirTakes k v) g = LocksOurs l k × (is_free v ≡ true)
Fits l t (Row.HeirHas k r) g = LocksOurs l k
Fits l t (Row.HeirLinks k r) g = LocksOurs l k
Fits l t (Row.GivesUp k) g = LocksOurs l k
Fits l t (Row.LastLooks k) g = LocksOurs l k
Fits l t (Row.LastMarks k v) g = LocksOurs l k × IsToMark t v
Fits l t (Row.HeirWakes k) g = LocksOurs l k
Fits l t (Row.Frees k f) g = LocksOurs l k
Fits l t (Row.FreeUnlinks k f) g = LocksOurs l k
Fits l t (Row.FreeGives k f) g = LocksOurs l k
Fits l t (Row.WakesAll m r) g = IsAbout l m g
Fits l t (Row.TryLooks m) g = IsOurs l m
Fits l t (Row.TryPends m v) g = IsOurs l m × (is_free v ≡ true)
Fits l t (Row.TryTakes m v) g = IsOurs l m × (is_free v ≡ true)
Fits l t (Row.GiveLooks m) g = IsOurs l m
Fits l t (Row.GivePends m y) g = GivesOurs l m y
Fits l t (Row.GiveUnlinks m y) g = GivesOurs l m y
Fits l t (Row.GiveFinds m y) g = GivesOurs l m y
Fits l t (Row.Gives m y) g = GivesOurs l m y
Fits l t (Row.HandsOn m y is) g = GivesOurs l m y
Fits l t (Row.LooksBack m y is) g = GivesOurs l m y
Fits l t (Row.WakesOne m y is) g = GivesOurs l m y
Fits l t (Row.Trims m is) g = IsOurs l m
Fits l t (Row.MendLooks m) g = IsOurs l m
Fits l t (Row.Mends m) g = IsOurs l m
Fits l t (Row.AnewLooks m) g = IsOurs l m
Fits l t (Row.Anews m v) g = IsOurs l m × ((fields_of v).unusable ≡ true)
Fits l t (Row.WaitLooks m k timed) g = AreOfUs l m k
Fits l t (Row.WaitCounts m k timed died) g = AreOfUs l m k
Fits l t (Row.WaitSets m k n timed) g = AreOfUs l m k
Fits l t (Row.WaitSleeps m k n timed) g = AreOfUs l m k
Fits l t (Row.WaitAsleep m k n timed) g = AreOfUs l m k
Fits l t (Row.WaitLate m k n) g = AreOfUs l m k
Fits l t (Row.CountLooks m k all) g = AreOfUs l m k
Fits l t (Row.CountLoads m k all) g = AreOfUs l m k
Fits l t (Row.Counts m k all n) g = AreOfUs l m k
Fits l t (Row.CountWakes m k n) g = AreOfUs l m k
Fits l t (Row.AllMarks m k n) g = AreOfUs l m k
Fits l t (Row.AllMoves m k n) g = AreOfUs l m k
Fits l t (Row.Unsets m k n) g = AreOfUs l m k
-- the others say nothing more
Fits l t r g = Unit {0}

-- a lock that has been to the slot doesn't own the cell
abbrev pub IsApart : Slots → ℕ → Row → Type 0
IsApart x t (Row.SeesToSleep k) = (fields_at x.machine (cell_of k.mutex)).owner ≢ t
IsApart x t (Row.LastLooks k) = (fields_at x.machine (cell_of k.mutex)).owner ≢ t
IsApart x t r = Unit {0}

-- at these rows a call may find the mutex unusable, or make it so: then it wakes all that sleep there
abbrev pub MayWakeAll : Row → ℕ → Type 0
MayWakeAll (Row.Sees k) m = k.mutex ≡ m
MayWakeAll (Row.Takes k v) m = k.mutex ≡ m
MayWakeAll (Row.SeesAgain k v) m = k.mutex ≡ m
MayWakeAll (Row.Marks k v n) m = k.mutex ≡ m
MayWakeAll (Row.SeesToSleep k) m = k.mutex ≡ m
MayWakeAll (Row.Gives k y) m = k ≡ m
MayWakeAll r m = ⊥

-- whatever an access finds, and however it chooses, the next row fits, wherever the machine's thread is then
abbrev pub NextRowsFit : Type 0
NextRowsFit = (x : Slots) (t : ℕ) (c : Choice) (r : Row) (g g' : Stage) → Fits x.machine.layout t r g → IsApart x t r
    → ((m : ℕ) → MayWakeAll r m → IsAbout x.machine.layout m g') → Fits x.machine.layout t (made x t c r).next g'
