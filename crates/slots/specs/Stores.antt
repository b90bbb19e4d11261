-- How the C library makes each access, and what that means where stores wait in a buffer, as on x86 (x86-TSO).
--
-- Plain stores are of the thread's own words: the pending entry, and the links of its list. These are the stores that wait
-- in `storebuffers`. Cells and slots change by locked instructions alone. A counter is stored plainly by its mutex's owner.
-- That store leaves the count as it is, or no wait that has released its mutex has seen the count before. So it may wait
-- until the owner's release, which is a locked instruction: nobody else reads the count meanwhile, but to compare it.
use Rattle.std.specs.Prelude.{ℕ, ◌≡◌, ◌≢◌, ◌⊎◌, ◌≤◌, ◌<◌, ◌/◌, ◌%◌, ◌^◌, ◌==◌, true, false, Some, List, length, slice_index, if◌then◌else◌, ◌&&◌, not, [], ◌∷◌}
use Rattle.stepprograms.specs.declared.access.Access.{Access}
use Rattle.stepprograms.specs.declared.access.Access.TheVariants as access
use Rattle.memorymap.specs.Layouts.{Layout', IsLayout, cell_place, counter_place}
use Rattle.protocol.specs.Changes.{IsItsOwn}
use Rattle.protocol.specs.Headline.{seen}
use Rattle.protocol.specs.Machine.{State, has_thread, is_alive, is_asleep, place_met, put}
use Rattle.storebuffers.specs.Buffers as buffers
use Rattle.storebuffers.specs.Runs as buffered
use Rattle.slots.specs.Rows.{Choice, Row}
use Rattle.slots.specs.Rows.Giving.{OfWait}
use Rattle.slots.specs.Shown.{Slots, begin, shown}
use Rattle.slots.specs.Table.{made}
use Rattle.slots.specs.Runs.{Happening, all_events, next, reached}
use Rattle.slots.specs.Runs.Happening.{Goes, Dies}
use Rattle.slots.specs.Accesses.{IsAtRow}
use Rattle.slots.specs.Premises.{AllTrusted}

-- ---- how an access is made

-- by a load; by a plain store; by a locked instruction; by a call to Linux; or along the thread's list, by a load or a plain
-- store
pub data Manner : Type 0 where
  Loads : Manner
  Stores : Manner
  Locks : Manner
  Asks : Manner
  Along : Manner

abbrev pub manner : Row → Manner
manner (Row.Pends k v) = Stores
manner (Row.Takes k v) = Locks
manner (Row.Links m r) = Along
manner (Row.Clears m r) = Stores
manner (Row.Marks k v n) = Locks
manner (Row.SleepsOn k v) = Asks
manner (Row.Asleep k) = Stores
manner (Row.Late k) = Stores
manner (Row.WakesAll m r) = Asks
manner (Row.SlotPends k g) = Stores
manner (Row.SlotTakes k g) = Locks
manner (Row.SlotLeft k) = Stores
manner (Row.SlotLinks k d) = Along
manner (Row.SlotClears k) = Stores
manner (Row.SlotQuiets k) = Locks
manner (Row.SlotMends k) = Locks
manner (Row.HeirPends k b) = Stores
manner (Row.HeirSets k) = Locks
manner (Row.HeirPendsOn k v over) = Stores
manner (Row.HeirTakes k v) = Locks
manner (Row.HeirHas k r) = Locks
manner (Row.HeirLinks k r) = Along
manner (Row.GivesUp k) = Locks
manner (Row.LastMarks k v) = Locks
manner (Row.HeirWakes k) = Asks
manner (Row.Frees k f) = Stores
manner (Row.FreeUnlinks k f) = Along
manner (Row.FreeGives k f) = Locks
manner (Row.TryPends m v) = Stores
manner (Row.TryTakes m v) = Locks
manner (Row.GivePends m y) = Stores
manner (Row.GiveUnlinks m y) = Along
manner (Row.Gives m y) = Locks
manner (Row.WakesOne m y is) = Asks
manner (Row.Trims m is) = Locks
manner (Row.Mends m) = Locks
manner (Row.Anews m v) = Locks
manner (Row.WaitSets m k n timed) = Stores
manner (Row.WaitSleeps m k n timed) = Asks
manner (Row.WaitAsleep m k n timed) = Stores
-- a count is an exchange if SLEPT is set
manner (Row.Counts m k all n) = if n / 2 ^ 32 == 1 then Locks else Stores
manner (Row.CountWakes m k n) = Asks
manner (Row.AllMarks m k n) = Locks
manner (Row.AllMoves m k n) = Asks
manner (Row.Unsets m k n) = Stores
manner r = Loads

-- An exchange whose result isn't used is a Store in the table
abbrev pub IsMadeSo : Manner → Access → Type 0
IsMadeSo Loads (access.Load at) = Unit {0}
IsMadeSo Stores (access.Store at v) = Unit {0}
IsMadeSo Locks (access.Store at v) = Unit {0}
IsMadeSo Locks (access.Exchange at e n) = Unit {0}
IsMadeSo Locks (access.FetchAnd at n) = Unit {0}
IsMadeSo Locks (access.FetchOr at n) = Unit {0}
IsMadeSo Locks (access.FetchXor at n) = Unit {0}
IsMadeSo Asks (access.Wait at e) = Unit {0}
IsMadeSo Asks (access.Wake at n) = Unit {0}
IsMadeSo Asks (access.CmpRequeue from e n to k) = Unit {0}
IsMadeSo Along (access.Load at) = Unit {0}
IsMadeSo Along (access.Store at v) = Unit {0}
IsMadeSo m a = ⊥

-- so it is at every row, whatever the access finds
abbrev pub AccessesAreMadeSo : Type 0
AccessesAreMadeSo = (x : Slots) (t : ℕ) (c : Choice) → IsAtRow x t
    → IsMadeSo (manner (x.rows t)) (made x t c (x.rows t)).access

-- ---- plain stores

abbrev pub IsPlain : Manner → Access → Type 0
IsPlain Stores (access.Store at v) = Unit {0}
IsPlain Along (access.Store at v) = Unit {0}
IsPlain m a = ⊥

abbrev pub stored_by : Access → ℕ
stored_by (access.Store at v) = v
stored_by a = 0

-- a wait on condition variable k has released its mutex, and has seen this count
abbrev pub Released : Row → ℕ → ℕ → Type 0
Released (Row.HandsOn m (OfWait i c b timed) is) k n = (i ≡ k) × (c ≡ n)
Released (Row.LooksBack m (OfWait i c b timed) is) k n = (i ≡ k) × (c ≡ n)
Released (Row.WakesOne m (OfWait i c b timed) is) k n = (i ≡ k) × (c ≡ n)
Released (Row.WaitSleeps m i c timed) k n = (i ≡ k) × (c ≡ n)
Released r k n = ⊥

-- no wait that has released its mutex has seen the count of condition variable k as it is
abbrev pub NobodyCompares : Slots → ℕ → Type 0
NobodyCompares x k = (u n : ℕ) → 1 ≤ u → u ≤ x.machine.layout.threads → Released (x.rows u) k n
    → n ≢ x.machine.words (counter_place x.machine.layout k)

-- thread t stores v at the counter of condition variable k, whose mutex it owns. The count stays, or nobody compares it
pub record StoresCount (x : Slots) (t p v k : ℕ) : Type 0 where
  pub inside : k < length x.machine.layout.conditions
  pub place : p ≡ counter_place x.machine.layout k
  pub owner : (seen x.machine (slice_index x.machine.layout.conditions k)).owner ≡ Some t
  pub unseen : (v % 2 ^ 32 ≡ x.machine.words (counter_place x.machine.layout k)) ⊎ NobodyCompares x k

-- in any run, each plain store of a thread that lives and is awake is of a word of its head, of a link of a mutex that it
-- owns, or such a store of a counter
abbrev pub PlainStoresAreOwn : Type 0
PlainStoresAreOwn = (l : Layout') (hs : List Happening) (t : ℕ) (c : Choice) → IsLayout l → 1 ≤ t → t ≤ l.threads
    → AllTrusted (begin l) hs
    → is_alive ((reached l hs).machine.threads t).stage ≡ true → is_asleep (reached l hs).machine t ≡ false
    → IsPlain (manner ((reached l hs).rows t)) (made (reached l hs) t c ((reached l hs).rows t)).access
    → IsItsOwn (reached l hs).machine t (place_met (reached l hs).machine.layout t (made (reached l hs) t c ((reached l hs).rows t)).access)
    ⊎ (k : ℕ) × StoresCount (reached l hs) t
    (place_met (reached l hs).machine.layout t (made (reached l hs) t c ((reached l hs).rows t)).access)
    (stored_by (made (reached l hs) t c ((reached l hs).rows t)).access) k

-- ---- the machine's stores

-- The machine's events of the run happen in the machine with store buffers, and stores reach memory whenever they do. With all
-- that waits, memory is the layer's machine. What waits is own words. In memory, the words of mutexes and the counters are
-- shown as in the layer, so an access finds there what its row does
pub record RunsWithBuffers (l : Layout') (hs : List Happening) (ds : List buffers.Happening) : Type 0 where
  pub state : buffered.settled (buffered.reached l (λ c. 0) ds) ≡ (reached l hs).machine
  pub waits : buffered.WaitsApart (buffered.reached l (λ c. 0) ds)
  pub cells : (k : ℕ) → k < l.mutexes
      → shown (record (reached l hs) { machine = (buffered.reached l (λ c. 0) ds).memory }) (cell_place l k)
      ≡ shown (reached l hs) (cell_place l k)
  pub counters : (k : ℕ) → shown (record (reached l hs) { machine = (buffered.reached l (λ c. 0) ds).memory }) (counter_place l k)
      ≡ shown (reached l hs) (counter_place l k)

abbrev pub RunsMayBuffer : Type 0
RunsMayBuffer = (l : Layout') (hs : List Happening) (ds : List buffers.Happening) → IsLayout l
    → buffers.without_drains ds ≡ all_events (begin l) hs → RunsWithBuffers l hs ds

-- ---- plain stores that wait

-- the places of a thread's plain stores since its last locked instruction. On x86, such an instruction waits until they have
-- reached memory, and so does a death
abbrev pub waiting_row : Manner → Access → List ℕ → ℕ → List ℕ
waiting_row Stores a ps p = p ∷ ps
waiting_row Along (access.Store at v) ps p = p ∷ ps
waiting_row Locks a ps p = []
waiting_row m a ps p = ps

abbrev pub waiting_after : Slots → Happening → (ℕ → List ℕ) → ℕ → List ℕ
waiting_after x (Goes t c) waiting =
    if has_thread x.machine t && is_alive (x.machine.threads t).stage && not (is_asleep x.machine t)
    then put waiting t (waiting_row (manner (x.rows t)) (made x t c (x.rows t)).access (waiting t)
    (place_met x.machine.layout t (made x t c (x.rows t)).access))
    else waiting
waiting_after x (Dies t) waiting =
    if has_thread x.machine t && is_alive (x.machine.threads t).stage then put waiting t [] else waiting
waiting_after x h waiting = waiting

abbrev pub waiting_from : Slots → List Happening → (ℕ → List ℕ) → ℕ → List ℕ
waiting_from x [] waiting = waiting
waiting_from x (h ∷ hs) waiting = waiting_from (next x h) hs (waiting_after x h waiting)

abbrev pub waiting_in : Layout' → List Happening → ℕ → List ℕ
waiting_in l hs = waiting_from (begin l) hs (λ t. [])

abbrev pub WaitsAt : ℕ → List ℕ → Type 0
WaitsAt p [] = ⊥
WaitsAt p (q ∷ ps) = (q ≡ p) ⊎ WaitsAt p ps

-- thread t's own word, or a counter whose mutex it owns
abbrev pub IsOwnHere : State → ℕ → ℕ → Type 0
IsOwnHere s t p = IsItsOwn s t p
    ⊎ (k : ℕ) × (k < length s.layout.conditions) × (p ≡ counter_place s.layout k)
    × ((seen s (slice_index s.layout.conditions k)).owner ≡ Some t)

-- Whatever stores wait: each is at a place that is still its thread's. So none is at a cell or a slot, and none is at a place
-- that is another thread's own. A dead thread's stores don't wait
pub record StoresWaitApart (s : State) (waiting : ℕ → List ℕ) : Type 0 where
  pub own : (t p : ℕ) → WaitsAt p (waiting t) → (1 ≤ t) × (t ≤ s.layout.threads) × IsOwnHere s t p
  pub cells : (t p k : ℕ) → WaitsAt p (waiting t) → k < s.layout.mutexes → p ≢ cell_place s.layout k
  pub apart : (t u p : ℕ) → 1 ≤ u → u ≤ s.layout.threads → t ≢ u → WaitsAt p (waiting t) → IsOwnHere s u p → ⊥
  pub dead : (t : ℕ) → 1 ≤ t → t ≤ s.layout.threads → is_alive (s.threads t).stage ≡ false → waiting t ≡ []

-- so it is in any run

abbrev pub PlainStoresWaitApart : Type 0
PlainStoresWaitApart = (l : Layout') (hs : List Happening) → IsLayout l → AllTrusted (begin l) hs
    → StoresWaitApart (reached l hs).machine (waiting_in l hs)
