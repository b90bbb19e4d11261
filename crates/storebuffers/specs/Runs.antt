-- What holds of every run with store buffers.
use Rattle.std.specs.Prelude.{ℕ, zero, suc, ◌≡◌, ◌≢◌, ◌<◌, ◌≤◌, ◌⊎◌, true, false, Some}
use Rattle.std.specs.Prelude.{List, [], ◌∷◌, ◌++◌, length, replicate}
use Rattle.lockword.specs.declared.reply.Reply.{Reply}
use Rattle.lockword.specs.declared.reply.Reply.TheVariants.{XRACED}
use Rattle.posixmutex.specs.Histories.{held_by}
use Rattle.posixmutex.specs.Objects.{Does}
use Rattle.memorymap.specs.Layouts.{Layout', IsLayout, cell_place, counter_place}
use Rattle.facts.specs.declared.fact.Fact.TheVariants.{Return}
use Rattle.condvar.specs.declared.op.Op.{Op}
use Rattle.condvar.specs.Ops.{acts_as, mutex_of, condition_of}
use Rattle.protocol.specs.declared.event.Event.{Event}
use Rattle.protocol.specs.declared.event.Event.TheVariants.{Begin, Step, Kill}
use Rattle.protocol.specs.declared.note.Note.{Note}
use Rattle.protocol.specs.declared.note.Note.TheVariants.{Nothing}
use Rattle.protocol.specs.declared.thread.Stage.TheVariants.{Reaped}
use Rattle.protocol.specs.Machine.{State, start, run, notes}
use Rattle.protocol.specs.Machine.{has_thread, is_alive, is_asleep, may_begin, sleepers, stands_in}
use Rattle.protocol.specs.Headline.{seen, facts_among, IsHistory, NoReapedOwns}
use Rattle.protocol.specs.Explained.{IsExplained}
use Rattle.protocol.specs.Deaths.{deaths, IsNotRenewed}
use Rattle.protocol.specs.Sleepers.{IsAwake, IsAtRest, IsUnowned, Sleeps, IsAmong, IsKeptWaiting, IsWaiting}
use Rattle.protocol.specs.PassedBy.{ArePresets, IsPassedBy}
use Rattle.protocol.specs.Applies.{Applies, IsNotedAs}
use Rattle.protocol.specs.Changes.{IsItsOwn}
use Rattle.storebuffers.specs.Buffers.{Buffered, start_buffered, Waits, stored, with_words}
use Rattle.storebuffers.specs.Buffers.{Happening, seen_by, next, run_buffered, noted, without_drains}
use Rattle.storebuffers.specs.Buffers.Happening.{Happens, Drain}

-- ---- memory, with all that waits

-- the words once the stores of the first n threads have reached them
abbrev pub all_stored : Buffered → ℕ → ℕ → ℕ
all_stored b zero = b.memory.words
all_stored b (suc n) = stored (b.buffers (suc n)) (all_stored b n)

-- the state once nothing waits any more
abbrev pub settled : Buffered → State
settled b = with_words b.memory (all_stored b b.memory.layout.threads)

-- what waits is a thread's own words alone: of its head, and the links of mutexes that it owns. So no word waits for
-- two threads, and every cell and every counter in memory is what it is once nothing waits. Nothing waits of a thread
-- that died, from its kill to its renewal
pub record WaitsApart (b : Buffered) : Type 0 where
  pub own : (t p : ℕ) → Waits p (b.buffers t)
      → (1 ≤ t) × (t ≤ b.memory.layout.threads) × IsItsOwn (settled b) t p
  pub apart : (t u p : ℕ) → t ≢ u → Waits p (b.buffers t) → Waits p (b.buffers u) → ⊥
  pub cells : (m : ℕ) → m < b.memory.layout.mutexes
      → b.memory.words (cell_place b.memory.layout m) ≡ (settled b).words (cell_place b.memory.layout m)
  pub counters : (c : ℕ)
      → b.memory.words (counter_place b.memory.layout c) ≡ (settled b).words (counter_place b.memory.layout c)
  pub dead : (t : ℕ) → is_alive (b.memory.threads t).stage ≡ false → b.buffers t ≡ []

-- where this leads from the beginning, and what it tells
abbrev pub reached : Layout' → (ℕ → ℕ) → List Happening → Buffered
reached l counters hs = run_buffered (start_buffered l counters) hs

abbrev pub told : Layout' → (ℕ → ℕ) → List Happening → List Note
told l counters hs = noted (start_buffered l counters) hs

-- what is recorded is what the machine without buffers tells of the same events, and memory, with all that waits, is
-- its state
pub record RunsAsWithout (l : Layout') (counters : ℕ → ℕ) (hs : List Happening) : Type 0 where
  pub notes : told l counters hs ≡ notes (start l counters) (without_drains hs)
  pub state : settled (reached l counters hs) ≡ run (start l counters) (without_drains hs)
  pub waits : WaitsApart (reached l counters hs)

-- whatever happens, and whenever stores reach memory, with any values of the counters at the beginning
abbrev pub BuffersChangeNothing : Type 0
BuffersChangeNothing = (l : Layout') (counters : ℕ → ℕ) (hs : List Happening) → IsLayout l → RunsAsWithout l counters hs

-- ---- the promises, of memory as it stands, whatever waits

-- thread t makes n steps, nothing else happens, and stores reach memory at any moment
abbrev pub AreSteps : ℕ → ℕ → List Happening → Type 0
AreSteps t n hs = without_drains hs ≡ replicate n (Step t)

-- this many steps of thread t, run alone, n at most, take mutex m or wake one that sleeps on it
abbrev pub Owes : Buffered → ℕ → ℕ → ℕ → Type 0
Owes b t m n = (k : ℕ) × (k ≤ n) × ((hs : List Happening) → AreSteps t k hs
    → ((seen (run_buffered b hs).memory m).owner ≡ Some t)
    ⊎ ((u : ℕ) × Sleeps b.memory u m × (stands_in u (sleepers (run_buffered b hs).memory m) ≡ false)))

-- whenever a mutex that nobody owns has sleepers, some awake thread owes them
abbrev pub SomebodyOwes : Buffered → Type 0
SomebodyOwes b = (m u : ℕ) → m < b.memory.layout.mutexes → IsUnowned b.memory m → Sleeps b.memory u m
    → (t : ℕ) × IsAwake b.memory t × Owes b t m 9000

-- whoever is awake and runs alone ends its call, falls asleep or is reaped within 9,000 steps
abbrev pub EndsAlone : Buffered → ℕ → Type 0
EndsAlone b t = IsAwake b.memory t
    → (n : ℕ) × (n ≤ 9000) × ((hs : List Happening) → AreSteps t n hs → IsAtRest (run_buffered b hs).memory t)

-- a begin of thread t and n of its steps, as `IsUndivided` of the machine without buffers has it
pub record IsUndivided (b : Buffered) (t : ℕ) (c : Op) (n : ℕ) (hs : List Happening) : Type 0 where
  pub ends : 9000 ≤ n
      → ((x : Reply) × IsAmong (Return t x) (facts_among (noted b hs)))
      ⊎ (is_asleep (run_buffered b hs).memory t ≡ true)
  pub returns : (x : Reply) → IsAmong (Return t x) (facts_among (noted b hs))
      → (x ≢ XRACED)
      × Does (held_by t (seen b.memory) b.memory.layout.mutexes) (seen b.memory (mutex_of b.memory.layout c)) t
      (acts_as c) x (seen (run_buffered b hs).memory (mutex_of b.memory.layout c))
  pub sleeps : is_asleep (run_buffered b hs).memory t ≡ true
      → IsKeptWaiting (seen b.memory (mutex_of b.memory.layout c)) t (acts_as c)
      ⊎ IsWaiting (seen b.memory (mutex_of b.memory.layout c)) t (acts_as c) (condition_of c)
      (run_buffered b hs).memory

abbrev pub AreUndivided : Buffered → ℕ → Type 0
AreUndivided b t = (c : Op) (n : ℕ) (hs : List Happening) → may_begin b.memory t c ≡ true
    → without_drains hs ≡ Begin t c ∷ replicate n (Step t) → IsUndivided b t c n hs

-- thread t is killed, and then this happens: its death is recorded, once, of each mutex that it owned and has lost
-- since, and of no other; once it is reaped, of each mutex that it owned
pub record ReportsDeath (b : Buffered) (t : ℕ) (hs : List Happening) : Type 0 where
  pub owned : (m : ℕ) → m < b.memory.layout.mutexes → (seen b.memory m).owner ≡ Some t →
      ((deaths t m (facts_among (noted (next b (Happens (Kill t))) hs)) ≡ 1)
      × ((seen (run_buffered (next b (Happens (Kill t))) hs).memory m).owner ≢ Some t))
      ⊎
      ((deaths t m (facts_among (noted (next b (Happens (Kill t))) hs)) ≡ 0)
      × ((seen (run_buffered (next b (Happens (Kill t))) hs).memory m).owner ≡ Some t))
  pub others : (m : ℕ) → m < b.memory.layout.mutexes → (seen b.memory m).owner ≢ Some t
      → deaths t m (facts_among (noted (next b (Happens (Kill t))) hs)) ≡ 0
  pub reaped : (m : ℕ) → m < b.memory.layout.mutexes → (seen b.memory m).owner ≡ Some t
      → ((run_buffered (next b (Happens (Kill t))) hs).memory.threads t).stage ≡ Reaped
      → deaths t m (facts_among (noted (next b (Happens (Kill t))) hs)) ≡ 1

abbrev pub ReportsDeaths : Buffered → List Happening → Type 0
ReportsDeaths b hs = (before after rest : List Happening) (t : ℕ)
    → hs ≡ before ++ Happens (Kill t) ∷ (after ++ rest)
    → has_thread (run_buffered b before).memory t ≡ true
    → is_alive ((run_buffered b before).memory.threads t).stage ≡ true
    → IsNotRenewed t (facts_among (noted (next (run_buffered b before) (Happens (Kill t))) after))
    → ReportsDeath (run_buffered b before) t after

-- the points and deaths that were recorded are a legal history, after which every mutex is as its cell in memory
-- says; the trace is explained; no reaped thread owns a mutex; nobody who sleeps on a mutex is stranded; who runs
-- alone comes to rest; undivided calls reply; deaths are recorded; no wait is passed by; and the next event is noted
-- as what it is where it applies, and else does nothing, to no buffer either
pub record PromisesHold (l : Layout') (counters : ℕ → ℕ) (hs : List Happening) : Type 0 where
  pub history : IsHistory (reached l counters hs).memory (told l counters hs)
  pub explained : IsExplained (without_drains hs) (told l counters hs)
  pub reaped : NoReapedOwns (reached l counters hs).memory
  pub owed : SomebodyOwes (reached l counters hs)
  pub ends : (t : ℕ) → EndsAlone (reached l counters hs) t
  pub undivided : (t : ℕ) → AreUndivided (reached l counters hs) t
  pub deaths : ReportsDeaths (start_buffered l counters) hs
  pub passed : ArePresets counters → (t k : ℕ) → ¬ IsPassedBy t k (told l counters hs)
  pub applies : (e : Event)
      → Applies l (settled (reached l counters hs)) (told l counters hs) e
      → IsNotedAs l (settled (reached l counters hs)) e (seen_by (reached l counters hs) e).note
  pub else_nothing : (e : Event)
      → ¬ Applies l (settled (reached l counters hs)) (told l counters hs) e
      → ((seen_by (reached l counters hs) e).note ≡ Nothing)
      × (next (reached l counters hs) (Happens e) ≡ reached l counters hs)

-- whatever happens, and whenever stores reach memory, with any values of the counters at the beginning
abbrev pub PromisesHoldWithBuffers : Type 0
PromisesHoldWithBuffers =
    (l : Layout') (counters : ℕ → ℕ) (hs : List Happening) → IsLayout l → PromisesHold l counters hs

-- ---- drains

-- in any state, after as many drains of thread t as stores wait: these have reached memory, one after the other, and
-- nothing of t waits; nothing else has changed
pub record AreDrained (b b' : Buffered) (t : ℕ) : Type 0 where
  pub memory : b'.memory ≡ with_words b.memory (stored (b.buffers t) b.memory.words)
  pub empty : b'.buffers t ≡ []
  pub others : (u : ℕ) → u ≢ t → b'.buffers u ≡ b.buffers u

-- so no buffer blocks
abbrev pub BuffersDrain : Type 0
BuffersDrain = (b : Buffered) (t : ℕ) → AreDrained b (run_buffered b (replicate (length (b.buffers t)) (Drain t))) t
