-- Calls that load before they store: a lock, a trylock and an unlock, where nobody is in the way, as the C driver makes
-- them (a plan of `pazdrig_c`).
--
-- *Loads first.* By its program a lock, or a trylock, announces its entry, looks at the cell, takes it, and loads the
-- first entry of its list; an unlock looks at the cell, announces its entry, and loads that one's two links. The driver
-- loads all of this before it stores anything, and others do what they do in between. Here is why that is a run of the
-- program: what it announces waits in its thread's buffer, so up to there memory is as if it had only loaded; and each
-- later load finds what was there before the first store, whatever others did. So the driver's first store is the
-- moment at which the waiting one reaches memory. (Who is killed before that has changed nothing: its call had come no
-- further than its begin.) Source: x86-TSO.
use Rattle.std.specs.Prelude.{ℕ, ◌≡◌, ◌+◌, ◌<◌, ◌≤◌, ◌⊎◌, true, false, Some, List}
use Rattle.lockword.specs.Cells.{fields_of}
use Rattle.stepprograms.specs.declared.access.Access.{Access}
use Rattle.stepprograms.specs.declared.access.Access.TheVariants.{Load}
use Rattle.memorymap.specs.Chains.{previous_place}
use Rattle.memorymap.specs.Layouts.{Layout', IsLayout, head_place, entry_place, cell_place, address_in}
use Rattle.posixmutex.specs.Objects.{acquires, held_limit}
use Rattle.mutex.specs.declared.call.Call.{Call}
use Rattle.mutex.specs.declared.call.Call.TheVariants.{Unlock}
use Rattle.mutex.specs.Calls.{mutex_of, operation_of}
use Rattle.mutex.specs.Standings.{Whole}
use Rattle.mutex.specs.Whole.{whole_access}
use Rattle.condvar.specs.declared.op.Op.{Op}
use Rattle.condvar.specs.declared.op.Op.TheVariants.{OnMutex}
use Rattle.protocol.specs.declared.event.Event.TheVariants.{Begin, Step}
use Rattle.protocol.specs.declared.thread.Stage.TheVariants.{Idle, Calling}
use Rattle.protocol.specs.Headline.{seen}
use Rattle.storebuffers.specs.Buffers.{Buffered, view, Happening, next, run_buffered, without_drains}
use Rattle.storebuffers.specs.Buffers.Happening.{Happens}
use Rattle.storebuffers.specs.OwnWords.{AreOthers}
use Rattle.storebuffers.specs.Runs.{reached}

-- what thread t finds at a place, if it loads that word now
abbrev pub finds : Buffered → ℕ → ℕ → ℕ
finds b t p = (view b t).words p

-- its next access, in a call on a mutex
abbrev pub IsNext : Buffered → ℕ → Access → Type 0
IsNext b t a = (o : Op) × (p : Whole) × ((b.memory.threads t).stage ≡ Calling o p) × (whole_access p ≡ a)

-- none of this is an event of thread t; its stores may reach memory
abbrev pub AreOfOthers : ℕ → List Happening → Type 0
AreOfOthers t hs = AreOthers t (without_drains hs)

-- thread t begins a call on a mutex, and makes its next access
abbrev pub begins_now : Buffered → ℕ → Call → Buffered
begins_now b t c = next b (Happens (Begin t (OnMutex c)))

abbrev pub steps_now : Buffered → ℕ → Buffered
steps_now b t = next b (Happens (Step t))

-- ---- a lock, or a trylock

-- from b on it has announced its entry, and directly after that looked at the cell
abbrev pub lock_announced : Buffered → ℕ → Call → Buffered
lock_announced b t c = steps_now (begins_now b t c) t

abbrev pub lock_looked : Buffered → ℕ → Call → Buffered
lock_looked b t c = steps_now (lock_announced b t c) t

-- others did these, and it has made its next access, the exchange that takes the cell; and others did those
abbrev pub lock_took : Buffered → ℕ → Call → List Happening → Buffered
lock_took b t c others = steps_now (run_buffered (lock_looked b t c) others) t

abbrev pub lock_links : Buffered → ℕ → Call → List Happening → List Happening → Buffered
lock_links b t c others more = run_buffered (lock_took b t c others) more

-- nobody is in its way: it may hold one mutex more, the cell is free and usable, and still the same at its exchange
pub record NobodyCrosses (b : Buffered) (t : ℕ) (c : Call) (others : List Happening) : Type 0 where
  pub room : (b.memory.threads t).held < held_limit
  pub free : (fields_of (b.memory.words (cell_place b.memory.layout (mutex_of c)))).owner ≡ 0
  pub usable : (fields_of (b.memory.words (cell_place b.memory.layout (mutex_of c)))).unusable ≡ false
  pub same : (run_buffered (lock_looked b t c) others).memory.words (cell_place b.memory.layout (mutex_of c))
      ≡ b.memory.words (cell_place b.memory.layout (mutex_of c))

-- it looks at the cell, and finds what it would have found before it announced; then memory is as it was; the first
-- entry of its list is the same from b on, up to its exchange, and after that, where it loads it
pub record LockLoadsFirst (b : Buffered) (t : ℕ) (c : Call) (others more : List Happening) : Type 0 where
  pub cell : finds (lock_announced b t c) t (cell_place b.memory.layout (mutex_of c))
      ≡ finds b t (cell_place b.memory.layout (mutex_of c))
  pub unstored : (lock_looked b t c).memory.words ≡ b.memory.words
  pub meanwhile : finds (run_buffered (lock_looked b t c) others) t (head_place t) ≡ finds b t (head_place t)
  pub first : finds (lock_links b t c others more) t (head_place t) ≡ finds b t (head_place t)
  pub loads : NobodyCrosses b t c others
      → IsNext (lock_links b t c others more) t (Load (address_in b.memory.layout t (head_place t)))

-- ---- an unlock

-- from b on it has looked at the cell; others did these, and it has announced its entry, and others did those; it has
-- loaded the next entry; and others did these
abbrev pub unlock_looked : Buffered → ℕ → ℕ → Buffered
unlock_looked b t m = steps_now (begins_now b t (Unlock m)) t

abbrev pub unlock_announces : Buffered → ℕ → ℕ → List Happening → Buffered
unlock_announces b t m others = run_buffered (unlock_looked b t m) others

abbrev pub unlock_announced : Buffered → ℕ → ℕ → List Happening → Buffered
unlock_announced b t m others = steps_now (unlock_announces b t m others) t

abbrev pub unlock_loads_next : Buffered → ℕ → ℕ → List Happening → List Happening → Buffered
unlock_loads_next b t m others more = run_buffered (unlock_announced b t m others) more

abbrev pub unlock_loads_previous : Buffered → ℕ → ℕ → List Happening → List Happening → List Happening → Buffered
unlock_loads_previous b t m others more last = run_buffered (steps_now (unlock_loads_next b t m others more) t) last

-- the word that says which entry is next, or which is previous
abbrev pub IsLink : Layout' → ℕ → ℕ → Type 0
IsLink l m p = (p ≡ entry_place l m) ⊎ (p ≡ entry_place l m + 1)

-- as it announces, memory is as it was; both links are the same from b on, before it announces, and where it loads
-- them; and there it loads them
pub record UnlockLoadsFirst (b : Buffered) (t m : ℕ) (others more last : List Happening) : Type 0 where
  pub unstored : (unlock_announced b t m others).memory.words ≡ (unlock_announces b t m others).memory.words
  pub meanwhile : (p : ℕ) → IsLink b.memory.layout m p → finds (unlock_announces b t m others) t p ≡ finds b t p
  pub loads_next : (p : ℕ) → IsLink b.memory.layout m p → finds (unlock_loads_next b t m others more) t p ≡ finds b t p
  pub asks_next : IsNext (unlock_loads_next b t m others more) t
      (Load (address_in b.memory.layout t (entry_place b.memory.layout m)))
  pub loads_previous : (p : ℕ) → IsLink b.memory.layout m p
      → finds (unlock_loads_previous b t m others more last) t p ≡ finds b t p
  pub asks_previous : IsNext (unlock_loads_previous b t m others more last) t
      (Load (previous_place (address_in b.memory.layout t (entry_place b.memory.layout m))))

-- ---- whatever others do

-- of thread t in no call: a lock or a trylock; and an unlock of a mutex that it owns
pub record LoadsComeFirst (b : Buffered) (t : ℕ) : Type 0 where
  pub locks : (c : Call) (others more : List Happening) → acquires (operation_of c) ≡ true
      → mutex_of c < b.memory.layout.mutexes → AreOfOthers t others → AreOfOthers t more
      → LockLoadsFirst b t c others more
  pub unlocks : (m : ℕ) (others more last : List Happening) → m < b.memory.layout.mutexes
      → (seen b.memory m).owner ≡ Some t → AreOfOthers t others → AreOfOthers t more → AreOfOthers t last
      → UnlockLoadsFirst b t m others more last

-- whatever happened before, and whenever stores reach memory, with any values of the counters at the beginning
abbrev pub LoadsMayComeFirst : Type 0
LoadsMayComeFirst = (l : Layout') (counters : ℕ → ℕ) (before : List Happening) (t : ℕ) → IsLayout l → 1 ≤ t
    → t ≤ l.threads → ((reached l counters before).memory.threads t).stage ≡ Idle
    → LoadsComeFirst (reached l counters before) t
