-- What rows assume of an access, by what it is about: what is so in every run, and the two bounds that the laws of runs take
-- for granted (`Trusts`).
use Rattle.std.specs.Prelude.{ℕ, ◌≡◌, ◌≢◌, ◌<◌, ◌≤◌, ◌+◌, ◌*◌, Bool, true, false, List, [], ◌∷◌}
use Rattle.lockword.specs.Cells.{waiters_alone}
use Rattle.memorymap.specs.Layouts.{Layout', IsLayout, cell_place, counter_place}
use Rattle.protocol.specs.Machine.{State, is_alive, is_asleep, is_left_to}
use Rattle.slots.specs.Places.{cell_of, slot_of}
use Rattle.slots.specs.Rows.{Choice, Onward, Giving, Row}
use Rattle.slots.specs.Rows.Onward.{Has, Fails, Sleeps}
use Rattle.slots.specs.Rows.Giving.{OfUnlock, OfWait}
use Rattle.slots.specs.Shown.{Slots, begin, shown}
use Rattle.slots.specs.Words.{shows_heir}
use Rattle.slots.specs.Seen.{heir_of}
use Rattle.slots.specs.Invariant.{fields_at, HasRoom, HeirsAnswer, KnowsTurn, SlotIsQuiet}
use Rattle.slots.specs.Fits.{IsOurs}
use Rattle.slots.specs.Laws.{IsEvents, IsReached}
use Rattle.slots.specs.Runs.{Happening, next, reached}
use Rattle.slots.specs.Runs.Happening.{Goes}
use Rattle.slots.specs.Goes.{AllGranted, who}

-- ---- how many mutexes the thread owns

-- At these rows the machine's thread is in no call, or its call is through, and it may take another. (At all others, its
-- call knows that.) A call of ours begins only if the thread may own two more, and never owns another at these rows but the
-- slot of its mutex
abbrev pub MayOwnMore : Slots → ℕ → Row → Type 0
MayOwnMore x t (Row.Looks k) = (x.machine.threads t).held < 2048
MayOwnMore x t (Row.Pends k v) = (x.machine.threads t).held < 2048
MayOwnMore x t (Row.SeesAgain k v) = (x.machine.threads t).held < 2048
MayOwnMore x t (Row.Marks k v n) = (x.machine.threads t).held < 2048
MayOwnMore x t (Row.SleepsOn k v) = (x.machine.threads t).held < 2048
MayOwnMore x t (Row.SlotPends k g) = (x.machine.threads t).held < 2048
MayOwnMore x t (Row.SlotLeft k) = (x.machine.threads t).held < 2048
MayOwnMore x t (Row.HeirPends k b) = (x.machine.threads t).held < 2048
MayOwnMore x t (Row.TryLooks m) = (x.machine.threads t).held < 2048
MayOwnMore x t (Row.TryPends m v) = (x.machine.threads t).held < 2048
MayOwnMore x t r = Unit {0}

-- ---- the machine's words

-- nothing is above UNUSABLE in the machine's words of mutexes, and an unusable mutex has no OWNER_DIED
pub record WordsAreSound (s : State) : Type 0 where
  pub room : (k : ℕ) → k < s.layout.mutexes → HasRoom s k
  pub lost : (k : ℕ) → k < s.layout.mutexes → (fields_at s k).unusable ≡ true → (fields_at s k).died ≡ false

-- so it is in every state of the machine
abbrev pub WordsStaySound : Type 0
WordsStaySound = (s : State) → IsReached s → WordsAreSound s

-- nobody sleeps on a slot
abbrev pub SlotsAreQuiet : State → Type 0
SlotsAreQuiet s = (m : ℕ) → IsOurs s.layout m → SlotIsQuiet s m

-- ---- what the thread owns

-- thread t owns mutex k of the machine, which is marked or not
pub record Holds (s : State) (t k : ℕ) (d : Bool) : Type 0 where
  pub owner : (fields_at s k).owner ≡ t
  pub died : (fields_at s k).died ≡ d

-- a release of a marked mutex is an unlock that makes it unusable
abbrev pub died_of : Giving → Bool
died_of (OfUnlock d) = d
died_of (OfWait k n slept timed) = false

abbrev pub OwnsNot : State → ℕ → ℕ → Type 0
OwnsNot s t m = (fields_at s (cell_of m)).owner ≢ t

-- a lock that gives its slot up to sleep doesn't own the cell
abbrev pub SleepsWithout : State → ℕ → ℕ → Onward → Type 0
SleepsWithout s t m (Has r) = Unit {0}
SleepsWithout s t m (Fails r) = Unit {0}
SleepsWithout s t m Sleeps = OwnsNot s t m

-- the slot and the cell that the thread owns, or doesn't own
abbrev pub Owning : State → ℕ → Row → Type 0
Owning s t (Row.Chooses k v) = OwnsNot s t k.mutex
Owning s t (Row.SeesAgain k v) = OwnsNot s t k.mutex
Owning s t (Row.Marks k v n) = OwnsNot s t k.mutex
Owning s t (Row.SlotPends k g) = OwnsNot s t k.mutex
Owning s t (Row.SlotTakes k g) = OwnsNot s t k.mutex
Owning s t (Row.SlotLeft k) = OwnsNot s t k.mutex
Owning s t (Row.SeesToSleep k) = OwnsNot s t k.mutex
Owning s t (Row.SlotLinks k d) = Holds s t (slot_of k.mutex) d × OwnsNot s t k.mutex
Owning s t (Row.SlotClears k) = Holds s t (slot_of k.mutex) true × OwnsNot s t k.mutex
Owning s t (Row.SlotQuiets k) = Holds s t (slot_of k.mutex) true × OwnsNot s t k.mutex
Owning s t (Row.SlotMends k) = Holds s t (slot_of k.mutex) true × OwnsNot s t k.mutex
Owning s t (Row.HeirPends k b) = Holds s t (slot_of k.mutex) false × OwnsNot s t k.mutex
Owning s t (Row.HeirSets k) = Holds s t (slot_of k.mutex) false × OwnsNot s t k.mutex
Owning s t (Row.HeirLooks k) = Holds s t (slot_of k.mutex) false × OwnsNot s t k.mutex
Owning s t (Row.HeirPendsOn k v over) = Holds s t (slot_of k.mutex) false × OwnsNot s t k.mutex
Owning s t (Row.HeirTakes k v) = Holds s t (slot_of k.mutex) false × OwnsNot s t k.mutex
Owning s t (Row.GivesUp k) = Holds s t (slot_of k.mutex) false × OwnsNot s t k.mutex
Owning s t (Row.LastLooks k) = Holds s t (slot_of k.mutex) false × OwnsNot s t k.mutex
Owning s t (Row.LastMarks k v) = Holds s t (slot_of k.mutex) false × OwnsNot s t k.mutex
Owning s t (Row.HeirWakes k) = Holds s t (slot_of k.mutex) false
Owning s t (Row.HeirHas k r) = Holds s t (slot_of k.mutex) false
Owning s t (Row.HeirLinks k r) = Holds s t (slot_of k.mutex) false
Owning s t (Row.Frees k f) = Holds s t (slot_of k.mutex) false × SleepsWithout s t k.mutex f
Owning s t (Row.FreeUnlinks k f) = Holds s t (slot_of k.mutex) false × SleepsWithout s t k.mutex f
Owning s t (Row.FreeGives k f) = Holds s t (slot_of k.mutex) false × SleepsWithout s t k.mutex f
Owning s t (Row.GivePends m y) = Holds s t (cell_of m) (died_of y)
Owning s t (Row.GiveUnlinks m y) = Holds s t (cell_of m) (died_of y)
Owning s t (Row.GiveFinds m y) = Holds s t (cell_of m) (died_of y)
Owning s t (Row.Gives m y) = Holds s t (cell_of m) (died_of y)
Owning s t (Row.Mends m) = Holds s t (cell_of m) true
Owning s t (Row.WaitCounts m k timed died) = Holds s t (cell_of m) died
Owning s t (Row.WaitSets m k n timed) = Holds s t (cell_of m) false
Owning s t (Row.CountLoads m k all) = (fields_at s (cell_of m)).owner ≡ t
Owning s t (Row.Counts m k all n) = (fields_at s (cell_of m)).owner ≡ t
Owning s t (Row.CountWakes m k n) = (fields_at s (cell_of m)).owner ≡ t
Owning s t (Row.AllMarks m k n) = (fields_at s (cell_of m)).owner ≡ t
Owning s t (Row.AllMoves m k n) = (fields_at s (cell_of m)).owner ≡ t
Owning s t (Row.Unsets m k n) = (fields_at s (cell_of m)).owner ≡ t
Owning s t r = Unit {0}

-- ---- the turn

-- a word of WAITERS alone, with a turn
abbrev pub IsOfTurn : ℕ → Type 0
IsOfTurn is = (turn : ℕ) × (is ≡ waiters_alone + turn * 0x2_0000_0000)

-- an unlock's release left WAITERS alone, with the turn of then; and the call knows what it does of the turn since
abbrev pub KnowsItsTurn : Slots → Row → Type 0
KnowsItsTurn x (Row.HandsOn m (OfUnlock d) is) = KnowsTurn x (Row.HandsOn m (OfUnlock d) is) × IsOfTurn is
KnowsItsTurn x (Row.LooksBack m (OfUnlock d) is) = KnowsTurn x (Row.LooksBack m (OfUnlock d) is) × IsOfTurn is
KnowsItsTurn x (Row.WakesOne m (OfUnlock d) is) = KnowsTurn x (Row.WakesOne m (OfUnlock d) is) × IsOfTurn is
KnowsItsTurn x (Row.Trims m is) = KnowsTurn x (Row.Trims m is) × IsOfTurn is
KnowsItsTurn x r = Unit {0}

-- AWAKE is cleared, or OWNER_DIED, in a word of 64 bits: the turn has 31. No other row asks this, so in a run a turn may have
-- more bits; but then its word has more than 64, as no word of the C library has
abbrev pub HasFewTurns : Slots → Row → Type 0
HasFewTurns x (Row.SlotQuiets k) = x.turns (slot_of k.mutex) < 0x8000_0000
HasFewTurns x (Row.HeirHas k r) = x.turns (slot_of k.mutex) < 0x8000_0000
HasFewTurns x (Row.GivesUp k) = x.turns (slot_of k.mutex) < 0x8000_0000
HasFewTurns x (Row.SlotMends k) = x.turns (slot_of k.mutex) < 0x8000_0000
HasFewTurns x (Row.Mends m) = x.turns (cell_of m) < 0x8000_0000
HasFewTurns x r = Unit {0}

-- ---- the heir

-- if the slot shows an heir after a release, the machine lets the wake be left to that heir
abbrev pub HeirTakesOver : Slots → ℕ → Row → Type 0
HeirTakesOver x t (Row.HandsOn m y is) =
    shows_heir (shown x (cell_place x.machine.layout (slot_of m))) ≡ true
    → is_left_to x.machine t (cell_of m) (heir_of x.machine t (cell_of m)) ≡ true
HeirTakesOver x t r = Unit {0}

-- ---- counters

-- the call has seen the counter's word as it is
abbrev pub SeesCount : Slots → Row → Type 0
SeesCount x (Row.GivePends m (OfWait k n slept timed)) = x.machine.words (counter_place x.machine.layout k) ≡ n
SeesCount x (Row.GiveUnlinks m (OfWait k n slept timed)) = x.machine.words (counter_place x.machine.layout k) ≡ n
SeesCount x (Row.GiveFinds m (OfWait k n slept timed)) = x.machine.words (counter_place x.machine.layout k) ≡ n
SeesCount x (Row.Gives m (OfWait k n slept timed)) = x.machine.words (counter_place x.machine.layout k) ≡ n
SeesCount x (Row.WaitSets m k n timed) = x.machine.words (counter_place x.machine.layout k) ≡ n
SeesCount x (Row.Counts m k all n) = shown x (counter_place x.machine.layout k) ≡ n
SeesCount x (Row.CountWakes m k n) = x.machine.words (counter_place x.machine.layout k) ≡ n
SeesCount x (Row.AllMarks m k n) = x.machine.words (counter_place x.machine.layout k) ≡ n
SeesCount x (Row.AllMoves m k n) = x.machine.words (counter_place x.machine.layout k) ≡ n
SeesCount x (Row.Unsets m k n) = x.machine.words (counter_place x.machine.layout k) ≡ n
SeesCount x r = Unit {0}

-- a count is below the largest when a signal adds to it
abbrev pub HasFewCounts : Slots → Row → Type 0
HasFewCounts x (Row.Counts m k all n) = x.machine.words (counter_place x.machine.layout k) < 0xffff_ffff
HasFewCounts x r = Unit {0}

-- without SLEPT nobody sleeps on the counter
abbrev pub KnowsSlept : Slots → Row → Type 0
KnowsSlept x (Row.Counts m k all n) = x.slept k ≡ false → x.machine.queues (counter_place x.machine.layout k) ≡ []
KnowsSlept x r = Unit {0}

-- ---- runs

-- thread t's next access, at its row
pub record Trusts (x : Slots) (t : ℕ) (r : Row) : Type 0 where
  pub few : HasFewTurns x r
  pub counts : HasFewCounts x r

abbrev pub TrustsIn : Slots → Happening → Type 0
TrustsIn x (Goes t c) = Trusts x t (x.rows t)
TrustsIn x h = Unit {0}

-- each happening of the run is of one of the layout's threads, and this is so of it
abbrev pub AllTrusted : Slots → List Happening → Type 0
AllTrusted x [] = Unit {0}
AllTrusted x (h ∷ hs) = ((1 ≤ who h) × (who h ≤ x.machine.layout.threads) × TrustsIn x h) × AllTrusted (next x h) hs

-- then each has all that it takes for granted
abbrev pub PremisesFollow : Type 0
PremisesFollow = (l : Layout') (hs : List Happening) → IsLayout l → AllTrusted (begin l) hs → AllGranted (begin l) hs

-- nobody sleeps on a slot after such a run
abbrev pub SlotsStayQuiet : Type 0
SlotsStayQuiet = (l : Layout') (hs : List Happening) → IsLayout l → AllTrusted (begin l) hs → SlotsAreQuiet (reached l hs).machine

-- each thread owns the slot and the cell that its row says, marked or not, and doesn't own those that its row says
abbrev pub RunsKeepOwners : Type 0
RunsKeepOwners = (l : Layout') (hs : List Happening) (t : ℕ) → IsLayout l → 1 ≤ t → t ≤ l.threads → AllTrusted (begin l) hs
    → Owning (reached l hs).machine t ((reached l hs).rows t)

-- a call that has released its mutex in an unlock knows what it does of the turn
abbrev pub RunsKeepTurns : Type 0
RunsKeepTurns = (l : Layout') (hs : List Happening) (t : ℕ) → IsLayout l → 1 ≤ t → t ≤ l.threads → AllTrusted (begin l) hs
    → KnowsItsTurn (reached l hs) ((reached l hs).rows t)

-- when a signal or a broadcast counts, and SLEPT isn't set, nobody sleeps on the counter
abbrev pub RunsKeepSlept : Type 0
RunsKeepSlept = (l : Layout') (hs : List Happening) (t : ℕ) → IsLayout l → 1 ≤ t → t ≤ l.threads → AllTrusted (begin l) hs
    → KnowsSlept (reached l hs) ((reached l hs).rows t)

-- a call that has seen a counter's word, to wait or to count, has seen it as it is
abbrev pub RunsKeepCounts : Type 0
RunsKeepCounts = (l : Layout') (hs : List Happening) (t : ℕ) → IsLayout l → 1 ≤ t → t ≤ l.threads → AllTrusted (begin l) hs
    → SeesCount (reached l hs) ((reached l hs).rows t)

-- if a slot has AWAKE and an owner, and isn't marked, its owner is the cell's heir
abbrev pub RunsKeepHeirs : Type 0
RunsKeepHeirs = (l : Layout') (hs : List Happening) → IsLayout l → AllTrusted (begin l) hs → HeirsAnswer (reached l hs)

-- so a call that finds an heir after its release may leave its wake to that heir
abbrev pub HeirsTakeOver : Type 0
HeirsTakeOver = (l : Layout') (hs : List Happening) (t : ℕ) → IsLayout l → 1 ≤ t → t ≤ l.threads → AllTrusted (begin l) hs
    → HeirTakesOver (reached l hs) t ((reached l hs).rows t)

-- the thread may own one mutex more if its row is to begin a call of the machine that takes one
abbrev pub RunsKeepRoom : Type 0
RunsKeepRoom = (l : Layout') (hs : List Happening) (t : ℕ) → IsLayout l → 1 ≤ t → t ≤ l.threads → AllTrusted (begin l) hs
    → MayOwnMore (reached l hs) t ((reached l hs).rows t)

-- each access of such a run, of a thread that lives and is awake, is the events that the table has
abbrev pub AllHold : Type 0
AllHold = (l : Layout') (hs : List Happening) (t : ℕ) (c : Choice) → IsLayout l → 1 ≤ t → t ≤ l.threads
    → AllTrusted (begin l) hs → Trusts (reached l hs) t ((reached l hs).rows t)
    → is_alive ((reached l hs).machine.threads t).stage ≡ true → is_asleep (reached l hs).machine t ≡ false
    → IsEvents (reached l hs) t c
