-- What laws take for granted of a state of the layer, in addition to what holds of every state of the machine.
use Rattle.std.specs.Prelude.{ℕ, ◌≡◌, ◌⊎◌, ◌<◌, ◌+◌, ◌/◌, true, false, Some, []}
use Rattle.lockword.specs.Cells.{Fields, fields_of}
use Rattle.memorymap.specs.Layouts.{Layout', head_place, entry_place, cell_place, address_in}
use Rattle.exitwalk.specs.Standings as walks
use Rattle.exitwalk.specs.declared.row.Part.TheVariants as part
use Rattle.exitwalk.specs.declared.row.Row as walk_row
use Rattle.exitwalk.specs.declared.row.Row.TheVariants as walk
use Rattle.mutex.specs.declared.call.Call.TheVariants.{TimedLock}
use Rattle.lockword.specs.declared.reply.Reply.{Reply}
use Rattle.robustlist.specs.Standings.{LinkStanding}
use Rattle.mutex.specs.declared.phase.Phase.TheVariants.{AtCell, Linking}
use Rattle.mutex.specs.declared.lock.LockRow.{LockRow}
use Rattle.mutex.specs.declared.row.Row.TheVariants.{Lock}
use Rattle.mutex.specs.Standings.{Whole}
use Rattle.condvar.specs.declared.op.Op.TheVariants.{OnMutex}
use Rattle.protocol.specs.declared.thread.Stage.TheVariants.{Calling, Dying}
use Rattle.protocol.specs.Headline.{seen}
use Rattle.protocol.specs.Machine.{State, stands_in}
use Rattle.protocol.specs.Sleepers.{IsUnowned}
use Rattle.slots.specs.Places.{cell_of, slot_of, our_mutexes}
use Rattle.slots.specs.Rows.{Row}
use Rattle.slots.specs.Shown.{Slots}

-- the machine's word of mutex k
abbrev pub fields_at : State → ℕ → Fields
fields_at s k = fields_of (s.words (cell_place s.layout k))

-- ---- the turn

-- A call has released mutex m, and left the word `is`. Since then, the mutex was taken; or it is as the call left it, and
-- nobody owns it
abbrev pub IsPast : Slots → ℕ → ℕ → Type 0
IsPast x m is = is / 0x2_0000_0000 < x.turns (cell_of m)

abbrev pub IsAsLeft : Slots → ℕ → ℕ → Type 0
IsAsLeft x m is = (is / 0x2_0000_0000 ≡ x.turns (cell_of m)) × IsUnowned x.machine (cell_of m)

-- After a wake of one that woke nobody, nobody sleeps on the cell until somebody takes it
abbrev pub NobodySleeps : Slots → ℕ → Type 0
NobodySleeps x m = x.machine.queues (cell_place x.machine.layout (cell_of m)) ≡ []

-- the mutex of a call after its release is one of the layout's
abbrev pub IsInside : Slots → Row → Type 0
IsInside x (Row.HandsOn m g is) = cell_of m < x.machine.layout.mutexes
IsInside x (Row.LooksBack m g is) = cell_of m < x.machine.layout.mutexes
IsInside x (Row.WakesOne m g is) = cell_of m < x.machine.layout.mutexes
IsInside x (Row.Trims m is) = cell_of m < x.machine.layout.mutexes
IsInside x r = Unit {0}

abbrev pub KnowsTurn : Slots → Row → Type 0
KnowsTurn x (Row.HandsOn m g is) = IsPast x m is ⊎ IsAsLeft x m is
KnowsTurn x (Row.LooksBack m g is) = IsPast x m is ⊎ IsAsLeft x m is
KnowsTurn x (Row.WakesOne m g is) = IsPast x m is ⊎ IsAsLeft x m is
KnowsTurn x (Row.Trims m is) = IsPast x m is ⊎ (IsAsLeft x m is × NobodySleeps x m)
KnowsTurn x r = Unit {0}

-- ---- the heir

-- thread u's walk has mutex m's entry pending, and hasn't treated it: the walk hasn't loaded the pending word yet, or treats
-- the list, or treats that entry
abbrev pub HasPending : Layout' → (ℕ → ℕ) → ℕ → ℕ → walk_row.Row → Type 0
HasPending l words m u walk.LoadFirst = words (head_place u + 2) ≡ address_in l u (entry_place l m)
HasPending l words m u (walk.LoadOffset f) = words (head_place u + 2) ≡ address_in l u (entry_place l m)
HasPending l words m u (walk.LoadPending f o) = words (head_place u + 2) ≡ address_in l u (entry_place l m)
HasPending l words m u (walk.LoadNext r) = r.pending ≡ address_in l u (entry_place l m)
HasPending l words m u (walk.LoadWord at (part.List r)) = r.pending ≡ address_in l u (entry_place l m)
HasPending l words m u (walk.LoadWord at part.Pending) = at ≡ address_in l u (cell_place l m)
HasPending l words m u (walk.Mark at v again (part.List r)) = r.pending ≡ address_in l u (entry_place l m)
HasPending l words m u (walk.Mark at v again part.Pending) = at ≡ address_in l u (cell_place l m)
HasPending l words m u (walk.WakeOne at (part.List r)) = r.pending ≡ address_in l u (entry_place l m)
HasPending l words m u (walk.WakeOne at part.Pending) = at ≡ address_in l u (cell_place l m)
HasPending l words m u r = ⊥

-- Thread u is awake in the machine's lock of the cell, and has still to look at the word. Or it has taken the cell, and
-- hasn't linked it yet, so the cell is pending. Or it was killed in one of these states, with the cell pending. The C
-- library clears AWAKE before it links the cell, so a walk that finds the slot unmarked hasn't treated the cell
pub data IsHeir (s : State) (k u : ℕ) : Type 0 where
  Looks : (p : Whole) (r : LockRow) → (s.threads u).stage ≡ Calling (OnMutex (TimedLock k)) p → p.phase ≡ AtCell (Lock r)
      → ((key : ℕ) → stands_in u (s.queues key) ≡ false) → IsHeir s k u
  HasTaken : (p : Whole) (l : LinkStanding) (r : Reply) → (s.threads u).stage ≡ Calling (OnMutex (TimedLock k)) p
      → p.phase ≡ Linking l r → (seen s k).owner ≡ Some u → IsHeir s k u
  Died : (w : walks.Standing) → (s.threads u).stage ≡ Dying w → HasPending s.layout s.words k u w.row → IsHeir s k u

-- if a slot has AWAKE and an owner, and isn't marked, its owner is the cell's heir
abbrev pub HeirsAnswer : Slots → Type 0
HeirsAnswer x = (m u : ℕ) → m < our_mutexes x.machine.layout → x.awake m ≡ true
    → (seen x.machine (slot_of m)).owner ≡ Some u → (fields_at x.machine (slot_of m)).died ≡ false
    → IsHeir x.machine (cell_of m) u

-- the machine keeps nothing above UNUSABLE in a mutex's word, so the turn fits there
abbrev pub HasRoom : State → ℕ → Type 0
HasRoom s k = (fields_at s k).rest ≡ 0

-- nobody sleeps on a slot, whose WAITERS is never set; and it is never unusable
pub record SlotIsQuiet (s : State) (m : ℕ) : Type 0 where
  pub waiters : (fields_at s (slot_of m)).waiters ≡ false
  pub usable : (fields_at s (slot_of m)).unusable ≡ false
  pub queue : s.queues (cell_place s.layout (slot_of m)) ≡ []
