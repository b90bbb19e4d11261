-- What holds of every run of the layer.
use Rattle.std.specs.Prelude.{Some, ℕ, ◌≡◌, ◌+◌, ◌-◌, ◌*◌, ◌<◌, ◌≤◌, true, false, List, [], ◌∷◌}
use Rattle.lockword.specs.Cells.{waiters_alone}
use Rattle.memorymap.specs.Layouts.{Layout', IsLayout, cell_place}
use Rattle.protocol.specs.declared.event.Event.{Event}
use Rattle.protocol.specs.declared.event.Event.TheVariants.{Step}
use Rattle.protocol.specs.declared.thread.Stage.{Stage}
use Rattle.protocol.specs.Headline.{seen}
use Rattle.protocol.specs.Machine.{State, start, run, happens, stands_in, words_after, queues_after}
use Rattle.protocol.specs.Sleepers.{IsUnowned, Sleeps}
use Rattle.protocol.specs.Spares.{WakesOneOf, MaySpare}
use Rattle.slots.specs.Places.{cell_of, slot_of, our_mutexes}
use Rattle.mutex.specs.declared.call.Call.TheVariants.{Unlock}
use Rattle.mutex.specs.declared.phase.Phase.TheVariants.{AtCell}
use Rattle.mutex.specs.declared.row.Row.TheVariants as mutex_row
use Rattle.mutex.specs.declared.unlock.UnlockRow.TheVariants.{Release}
use Rattle.slots.specs.Rows.{Choice, Giving, Row}
use Rattle.slots.specs.Rows.Giving.{OfUnlock}
use Rattle.slots.specs.Shown.{Slots, begin, shown, memory, after}
use Rattle.slots.specs.Words.{shows_heir}
use Rattle.slots.specs.Seen.{heir_of}
use Rattle.slots.specs.Table.{made}
use Rattle.slots.specs.Runs.{Happening, made_by, reached, all_events}
use Rattle.slots.specs.Invariant.{fields_at, IsHeir, KnowsTurn, IsInside, HeirsAnswer, HasRoom, SlotIsQuiet}
use Rattle.slots.specs.Stands.{IsIn, Stands}

-- a state of the machine to which events lead
pub record IsReached (s : State) : Type 0 where
  pub layout : Layout'
  pub counters : ℕ → ℕ
  pub events : List Event
  pub is : IsLayout layout
  pub here : s ≡ run (start layout counters) events

-- the layer's runs are runs of the machine, so its laws hold of their states and of the history
abbrev pub SlotsRunTheMachine : Type 0
SlotsRunTheMachine = (l : Layout') (hs : List Happening)
    → (reached l hs).machine ≡ run (start l (λ c. 0)) (all_events (begin l) hs)

-- whoever sleeps on a mutex that nobody owns slept there when it came to be free
abbrev pub NobodyJoinsAFreeMutex : Type 0
NobodyJoinsAFreeMutex = (s : State) (e : Event) (m u : ℕ) → IsReached s → m < s.layout.mutexes → IsUnowned s m
    → Sleeps (happens s e).state u m → Sleeps s u m

-- what a call that has released its mutex knows of the turn it knows whatever happens
abbrev pub TurnsStayKnown : Type 0
TurnsStayKnown = (x : Slots) (e : Event) (r : Row) → IsReached x.machine → IsInside x r → KnowsTurn x r
    → KnowsTurn (after x (e ∷ [])) r

-- The turn. If a call is about to trim, and finds the word that its release left, that word was WAITERS alone, and nobody
-- sleeps there. So the exchange that the C library makes is the machine's trim, which clears the word
pub record TrimsThere (x : Slots) (m is : ℕ) : Type 0 where
  pub word : x.machine.words (cell_place x.machine.layout (cell_of m)) ≡ waiters_alone
  pub nobody : x.machine.queues (cell_place x.machine.layout (cell_of m)) ≡ []

abbrev pub TrimsAreTheMachines : Type 0
TrimsAreTheMachines = (x : Slots) (m k : ℕ) → cell_of m < x.machine.layout.mutexes → HasRoom x.machine (cell_of m)
    → KnowsTurn x (Row.Trims m (waiters_alone + k * 0x2_0000_0000))
    → shown x (cell_place x.machine.layout (cell_of m)) ≡ waiters_alone + k * 0x2_0000_0000
    → TrimsThere x m (waiters_alone + k * 0x2_0000_0000)

-- The heir. If a call finds a slot with AWAKE and an owner, not marked, after its release, its wake may be spared
abbrev pub HeirsLetSpare : Type 0
HeirsLetSpare = (x : Slots) (t m : ℕ) (g : Stage) → IsReached x.machine → m < our_mutexes x.machine.layout
    → cell_of m < x.machine.layout.mutexes → slot_of m < x.machine.layout.mutexes
    → HasRoom x.machine (slot_of m) → SlotIsQuiet x.machine m → HeirsAnswer x
    → shows_heir (shown x (cell_place x.machine.layout (slot_of m))) ≡ true
    → WakesOneOf x.machine t (cell_of m) g → MaySpare x.machine t (heir_of x.machine t (cell_of m))

-- a living thread that is where its row says is the heir of each mutex whose slot it owns with AWAKE, not marked
abbrev pub StandingHeirsAnswer : Type 0
StandingHeirsAnswer = (x : Slots) (u m : ℕ) → IsReached x.machine → 1 ≤ u → u ≤ x.machine.layout.threads → Stands x u
    → x.awake m ≡ true → (seen x.machine (slot_of m)).owner ≡ Some u
    → (fields_at x.machine (slot_of m)).died ≡ false → IsHeir x.machine (cell_of m) u

-- ---- an access

-- thread t's next access is the events that the table has: memory and queues are afterwards what the access makes of
-- them. That the events apply shows in that, or in where the thread is then. After a refused first look both are as before:
-- of these, `RefusalsAreTheMachines` says it
pub record IsEvents (x : Slots) (t : ℕ) (c : Choice) : Type 0 where
  pub words : (p : ℕ) → shown (made_by x t c (made x t c (x.rows t))) p
      ≡ words_after (memory x) t (made x t c (x.rows t)).access p
  pub queues : (p : ℕ) → (made_by x t c (made x t c (x.rows t))).machine.queues p
      ≡ queues_after (memory x) t (made x t c (x.rows t)).access p

-- ---- the turn, from row to row

-- after any events
abbrev pub TurnsStayKnownByAll : Type 0
TurnsStayKnownByAll = (x : Slots) (es : List Event) (r : Row) → IsReached x.machine → IsInside x r → KnowsTurn x r
    → KnowsTurn (after x es) r

-- a wake of one wakes nobody, as nobody sleeps there: the call knows at its trim what it knew, and that nobody sleeps
abbrev pub WakesOfNobodyTell : Type 0
WakesOfNobodyTell = (x : Slots) (t m is : ℕ) (g : Giving) → IsReached x.machine → cell_of m < x.machine.layout.mutexes
    → x.machine.queues (cell_place x.machine.layout (cell_of m)) ≡ [] → KnowsTurn x (Row.WakesOne m g is)
    → KnowsTurn (after x (Step t ∷ [])) (Row.Trims m is)

-- After the release of a consistent mutex, nobody owns the mutex, and the word that the release left has the current turn.
-- That word is what memory showed, without the owner
abbrev pub ReleasesTell : Type 0
ReleasesTell = (x : Slots) (t m : ℕ) → IsReached x.machine → 1 ≤ t → t ≤ x.machine.layout.threads
    → cell_of m < x.machine.layout.mutexes → HasRoom x.machine (cell_of m)
    → IsIn (Unlock (cell_of m)) (AtCell (mutex_row.Unlock (Release false))) (x.machine.threads t).stage
    → ((key : ℕ) → stands_in t (x.machine.queues key) ≡ false) → (fields_at x.machine (cell_of m)).owner ≡ t
    → KnowsTurn (after x (Step t ∷ []))
    (Row.HandsOn m (OfUnlock false) (shown x (cell_place x.machine.layout (cell_of m)) - t))
