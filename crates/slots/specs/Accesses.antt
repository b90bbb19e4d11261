-- Rows whose access is the events that the table has, family by family.
use Rattle.std.specs.Prelude.{ℕ, ◌≡◌, ◌≢◌, ◌≤◌, ◌<◌, true, false, []}
use Rattle.stepprograms.specs.declared.access.Access.{Access}
use Rattle.stepprograms.specs.declared.access.Access.TheVariants as access
use Rattle.memorymap.specs.Layouts.{Layout', cell_place, place_in}
use Rattle.condvar.specs.Ops.{mutex_of}
use Rattle.condvar.specs.declared.op.Op.TheVariants.{OnCondition}
use Rattle.protocol.specs.declared.thread.Stage.{Stage}
use Rattle.protocol.specs.declared.thread.Stage.TheVariants.{Calling, AtCondition}
use Rattle.protocol.specs.Machine.{State, stands_in}
use Rattle.slots.specs.Places.{cell_of, slot_of}
use Rattle.slots.specs.Rows.{Choice, Taking, Row}
use Rattle.slots.specs.Rows.Before.{Linked, Mended, Again}
use Rattle.slots.specs.Rows.Giving.{OfUnlock, OfWait}
use Rattle.slots.specs.Shown.{Slots, shown}
use Rattle.slots.specs.Table.{made}
use Rattle.slots.specs.Stands.{StandsAs}
use Rattle.slots.specs.Invariant.{fields_at, HasRoom}
use Rattle.slots.specs.Laws.{IsEvents, IsReached}

-- the machine's call is about mutex m's cell
abbrev pub IsAbout : Layout' → ℕ → Stage → Type 0
IsAbout l m (Calling o p) = mutex_of l o ≡ cell_of m
IsAbout l m (AtCondition o p) = mutex_of l (OnCondition o) ≡ cell_of m
IsAbout l m g = Unit {0}

-- at these rows, it is about the row's mutex
abbrev pub IsAboutIt : Layout' → Row → Stage → Type 0
IsAboutIt l (Row.Sees k) g = IsAbout l k.mutex g
IsAboutIt l (Row.Takes k v) g = IsAbout l k.mutex g
IsAboutIt l (Row.SeesAgain k v) g = IsAbout l k.mutex g
IsAboutIt l (Row.SeesToSleep k) g = IsAbout l k.mutex g
IsAboutIt l (Row.Marks k v n) g = IsAbout l k.mutex g
IsAboutIt l (Row.SleepsOn k v) g = IsAbout l k.mutex g
IsAboutIt l (Row.Asleep k) g = IsAbout l k.mutex g
IsAboutIt l (Row.WaitAsleep m k n timed) g = IsAbout l m g
IsAboutIt l (Row.WakesAll m r) g = IsAbout l m g
IsAboutIt l (Row.HandsOn m y is) g = IsAbout l m g
IsAboutIt l (Row.LooksBack m y is) g = IsAbout l m g
IsAboutIt l (Row.WakesOne m y is) g = IsAbout l m g
IsAboutIt l (Row.Gives m y) g = IsAbout l m g
IsAboutIt l (Row.AllMarks m k n) g = IsAbout l m g
IsAboutIt l (Row.AllMoves m k n) g = IsAbout l m g
IsAboutIt l r g = Unit {0}

-- Thread t is alive and awake. In the machine, it is where its row says, in a call about the row's mutex
pub record IsAtRow (x : Slots) (t : ℕ) : Type 0 where
  pub reached : IsReached x.machine
  pub first : 1 ≤ t
  pub last : t ≤ x.machine.layout.threads
  pub there : StandsAs (x.rows t) (x.machine.threads t).stage
  pub about : IsAboutIt x.machine.layout (x.rows t) (x.machine.threads t).stage
  pub out : (key : ℕ) → stands_in t (x.machine.queues key) ≡ false

-- ---- looks

abbrev pub IsLoad : Access → Type 0
IsLoad (access.Load at) = Unit {0}
IsLoad a = ⊥

-- a load for which the table has no events
abbrev pub LooksAreEvents : Type 0
LooksAreEvents = (x : Slots) (t : ℕ) (c : Choice) → IsLoad (made x t c (x.rows t)).access
    → (made x t c (x.rows t)).events ≡ [] → IsEvents x t c

-- an exchange that finds another word than it expects
abbrev pub IsMiss : Slots → ℕ → Access → Type 0
IsMiss x t (access.Exchange at e n) = shown x (place_in x.machine.layout t at) ≢ e
IsMiss x t a = ⊥

-- one for which the table has no events
abbrev pub MissesAreNoEvents : Type 0
MissesAreNoEvents = (x : Slots) (t : ℕ) (c : Choice) → IsMiss x t (made x t c (x.rows t)).access
    → (made x t c (x.rows t)).events ≡ [] → IsEvents x t c

-- ---- along the thread's list

abbrev pub IsAlongList : Row → Type 0
IsAlongList (Row.Links m r) = Unit {0}
IsAlongList (Row.SlotLinks k d) = Unit {0}
IsAlongList (Row.HeirLinks k r) = Unit {0}
IsAlongList (Row.FreeUnlinks k f) = Unit {0}
IsAlongList (Row.GiveUnlinks m g) = Unit {0}
IsAlongList r = ⊥

-- each load and each store that puts an entry on the list or takes it off is one Step
abbrev pub ListRowsAreEvents : Type 0
ListRowsAreEvents = (x : Slots) (t : ℕ) (c : Choice) → IsAtRow x t → IsAlongList (x.rows t) → IsEvents x t c

-- ---- the pending word

abbrev pub IsClearing : Row → Type 0
IsClearing (Row.Clears m r) = Unit {0}
IsClearing (Row.SlotClears k) = Unit {0}
IsClearing r = ⊥

-- the store that clears the pending word is one Step
abbrev pub ClearingRowsAreEvents : Type 0
ClearingRowsAreEvents = (x : Slots) (t : ℕ) (c : Choice) → IsAtRow x t → IsClearing (x.rows t) → IsEvents x t c

abbrev pub IsPendingAgain : Row → Type 0
IsPendingAgain (Row.Asleep k) = Unit {0}
IsPendingAgain (Row.Late k) = Unit {0}
IsPendingAgain (Row.HeirPends k Again) = Unit {0}
IsPendingAgain (Row.HeirPendsOn k v over) = Unit {0}
IsPendingAgain (Row.WaitAsleep m k n timed) = Unit {0}
IsPendingAgain r = ⊥

-- a store of the entry that is pending already is no event
abbrev pub PendingAgainIsNoEvent : Type 0
PendingAgainIsNoEvent = (x : Slots) (t : ℕ) (c : Choice) → IsAtRow x t → IsPendingAgain (x.rows t) → IsEvents x t c

-- ---- wakes

abbrev pub IsWake : Row → Type 0
IsWake (Row.WakesAll m r) = Unit {0}
IsWake (Row.HeirWakes k) = Unit {0}
IsWake (Row.WakesOne m g is) = Unit {0}
IsWake (Row.CountWakes m k n) = Unit {0}
IsWake r = ⊥

abbrev pub WakesAreEvents : Type 0
WakesAreEvents = (x : Slots) (t : ℕ) (c : Choice) → IsAtRow x t → IsWake (x.rows t) → IsEvents x t c

-- ---- the slot's flag

-- thread t and mutex k of the machine are the layout's, in a state that events lead to
pub record IsInLayout (s : State) (t k : ℕ) : Type 0 where
  pub reached : IsReached s
  pub first : 1 ≤ t
  pub last : t ≤ s.layout.threads
  pub inside : k < s.layout.mutexes

-- an heir says that it is awake: the slot's word has its owner alone before, in the machine
abbrev pub AwakeIsSet : Type 0
AwakeIsSet = (x : Slots) (t : ℕ) (c : Choice) (k : Taking) → IsInLayout x.machine t (slot_of k.mutex)
    → x.rows t ≡ Row.HeirSets k → x.machine.words (cell_place x.machine.layout (slot_of k.mutex)) ≡ t → IsEvents x t c

-- these rows clear AWAKE of mutex m's slot
abbrev pub IsQuieting : Row → ℕ → Type 0
IsQuieting (Row.SlotQuiets k) m = k.mutex ≡ m
IsQuieting (Row.HeirHas k r) m = k.mutex ≡ m
IsQuieting (Row.GivesUp k) m = k.mutex ≡ m
IsQuieting r m = ⊥

-- the word has 64 bits: in the machine no more than its lower half is used, and what is above AWAKE has 31 bits
abbrev pub AwakeIsCleared : Type 0
AwakeIsCleared = (x : Slots) (t : ℕ) (c : Choice) (m : ℕ) → IsInLayout x.machine t (slot_of m) → IsQuieting (x.rows t) m
    → x.machine.words (cell_place x.machine.layout (slot_of m)) < 0x1_0000_0000 → x.turns (slot_of m) < 0x8000_0000
    → IsEvents x t c

-- ---- an exchange that takes

-- memory shows the word v of mutex k of the machine, which nobody owns and which is usable
pub record Finds (x : Slots) (k v : ℕ) : Type 0 where
  pub found : shown x (cell_place x.machine.layout k) ≡ v
  pub free : (fields_at x.machine k).owner ≡ 0
  pub usable : (fields_at x.machine k).unusable ≡ false
  pub room : HasRoom x.machine k

-- the row's exchange finds the word that it expects
abbrev pub IsFound : Slots → Row → Type 0
IsFound x (Row.Takes k v) = Finds x (cell_of k.mutex) v
IsFound x (Row.HeirTakes k v) = Finds x (cell_of k.mutex) v
IsFound x (Row.TryTakes m v) = Finds x (cell_of m) v
IsFound x (Row.SlotTakes k g) = Finds x (slot_of k.mutex) g
IsFound x r = ⊥

-- it takes the mutex by load and exchange of the machine's trylock, or of its lock
abbrev pub TakesAreEvents : Type 0
TakesAreEvents = (x : Slots) (t : ℕ) (c : Choice) → IsAtRow x t → IsFound x (x.rows t) → IsEvents x t c

-- ---- a release

-- thread t owns mutex k of the machine, which is usable
pub record Owns (s : State) (t k : ℕ) : Type 0 where
  pub owner : (fields_at s k).owner ≡ t
  pub usable : (fields_at s k).unusable ≡ false

-- at these rows it releases the slot, or the cell; if it makes the mutex unusable, OWNER_DIED is set
abbrev pub IsGiven : Slots → ℕ → Row → Type 0
IsGiven x t (Row.FreeGives k f) = Owns x.machine t (slot_of k.mutex)
IsGiven x t (Row.Gives m (OfUnlock false)) = Owns x.machine t (cell_of m)
IsGiven x t (Row.Gives m (OfUnlock true)) = Owns x.machine t (cell_of m) × ((fields_at x.machine (cell_of m)).died ≡ true)
IsGiven x t (Row.Gives m (OfWait k n slept timed)) = Owns x.machine t (cell_of m)
IsGiven x t r = ⊥

-- a release is one Step: with the turn and AWAKE above it, the word changes as the machine's does
abbrev pub ReleasesAreEvents : Type 0
ReleasesAreEvents = (x : Slots) (t : ℕ) (c : Choice) → IsAtRow x t → IsGiven x t (x.rows t) → IsEvents x t c

-- ---- an announcement

-- at these rows a call of the machine begins, on a mutex of the layout, and announces it
abbrev pub IsAnnouncing : Slots → Row → Type 0
IsAnnouncing x (Row.Pends k v) = cell_of k.mutex < x.machine.layout.mutexes
IsAnnouncing x (Row.TryPends m v) = cell_of m < x.machine.layout.mutexes
IsAnnouncing x (Row.SlotPends k g) = slot_of k.mutex < x.machine.layout.mutexes
IsAnnouncing x (Row.SlotLeft k) = cell_of k.mutex < x.machine.layout.mutexes
IsAnnouncing x (Row.HeirPends k Linked) = cell_of k.mutex < x.machine.layout.mutexes
IsAnnouncing x (Row.HeirPends k Mended) = cell_of k.mutex < x.machine.layout.mutexes
IsAnnouncing x r = ⊥

-- the store is the end of the last call, if that has still to clear what it had pending, and the beginning of the next
abbrev pub AnnouncingRowsAreEvents : Type 0
AnnouncingRowsAreEvents = (x : Slots) (t : ℕ) (c : Choice) → IsAtRow x t → (x.machine.threads t).held < 2048
    → IsAnnouncing x (x.rows t) → IsEvents x t c
