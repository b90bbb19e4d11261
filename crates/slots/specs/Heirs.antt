-- Heirs stay heirs, whatever happens.
use Rattle.std.specs.Prelude.{ℕ, ◌≡◌, ◌≢◌, ◌≤◌, ◌<◌, true, false, Some, List, [], ◌∷◌}
use Rattle.protocol.specs.declared.event.Event.{Event}
use Rattle.protocol.specs.declared.event.Event.TheVariants.{Step, Kill}
use Rattle.protocol.specs.declared.thread.Stage.TheVariants.{Dying}
use Rattle.exitwalk.specs.Standings as walks
use Rattle.protocol.specs.Explained.{caller}
use Rattle.protocol.specs.Headline.{seen}
use Rattle.protocol.specs.Machine.{State, happens}
use Rattle.slots.specs.Places.{cell_of, slot_of, our_mutexes}
use Rattle.slots.specs.Shown.{Slots, after}
use Rattle.slots.specs.Invariant.{HasPending, HeirsAnswer, IsHeir, fields_at}
use Rattle.slots.specs.Laws.{IsReached}

-- whatever others do, an heir of mutex k stays one: in its lock, awake, it has still to look; what it has taken is its
-- own; and dead it has mutex k pending
abbrev pub OthersLeaveHeirs : Type 0
OthersLeaveHeirs = (s : State) (e : Event) (k u : ℕ) → IsReached s → 1 ≤ u → u ≤ s.layout.threads → caller e ≢ u
    → IsHeir s k u → IsHeir (happens s e).state k u

-- an heir that is killed is one still: Linux will look at what it had pending
abbrev pub DeathsLeaveHeirs : Type 0
DeathsLeaveHeirs = (s : State) (k u : ℕ) → IsReached s → 1 ≤ u → u ≤ s.layout.threads → IsHeir s k u
    → IsHeir (happens s (Kill u)).state k u

-- and its walk's accesses leave it one, as long as the thread owns another mutex: its slot, which is on its list
abbrev pub WalksLeaveHeirs : Type 0
WalksLeaveHeirs = (s : State) (k j u : ℕ) (w : walks.Standing) → IsReached s → k < s.layout.mutexes → 1 ≤ u
    → u ≤ s.layout.threads
    → (s.threads u).stage ≡ Dying w → HasPending s.layout s.words k u w.row
    → (seen (happens s (Step u)).state j).owner ≡ Some u → IsHeir (happens s (Step u)).state k u

-- ---- what holds of all heirs but one thread's own

-- these are events of thread t
abbrev pub AreOf : ℕ → List Event → Type 0
AreOf t [] = Unit {0}
AreOf t (e ∷ es) = (caller e ≡ t) × AreOf t es

abbrev pub HeirsAnswerBut : ℕ → Slots → Type 0
HeirsAnswerBut t x = (m u : ℕ) → m < our_mutexes x.machine.layout → slot_of m < x.machine.layout.mutexes → u ≢ t → x.awake m ≡ true
    → (seen x.machine (slot_of m)).owner ≡ Some u → (fields_at x.machine (slot_of m)).died ≡ false
    → IsHeir x.machine (cell_of m) u

-- whatever events of its own a thread makes at one moment, all other heirs are heirs still: nobody but its owner changes
-- what a slot says of its owner
abbrev pub OthersAnswerStill : Type 0
OthersAnswerStill = (x : Slots) (t : ℕ) (es : List Event) → IsReached x.machine → AreOf t es → HeirsAnswerBut t x
    → HeirsAnswerBut t (after x es)

-- a mutex that a thread owns is as it was after an event of another thread
abbrev pub OthersLeaveWhatIsOwned : Type 0
OthersLeaveWhatIsOwned = (s : State) (e : Event) (j u : ℕ) → IsReached s → caller e ≢ u
    → (seen (happens s e).state j).owner ≡ Some u → seen (happens s e).state j ≡ seen s j

-- ---- and what becomes of a thread's own

-- all heirs still answer after a death, and after each access of a walk
abbrev pub DeathsLeaveAll : Type 0
DeathsLeaveAll = (x : Slots) (t : ℕ) → IsReached x.machine → 1 ≤ t → t ≤ x.machine.layout.threads → HeirsAnswer x
    → HeirsAnswer (after x (Kill t ∷ []))

abbrev pub WalksLeaveAll : Type 0
WalksLeaveAll = (x : Slots) (t : ℕ) (w : walks.Standing) → IsReached x.machine → 1 ≤ t → t ≤ x.machine.layout.threads
    → (x.machine.threads t).stage ≡ Dying w → HeirsAnswer x → HeirsAnswer (after x (Step t ∷ []))
