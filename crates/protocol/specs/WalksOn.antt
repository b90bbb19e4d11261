-- A walk that is kept after each access, and gone on with by another walker (robust-futexes; get_robust_list(2)).
use Rattle.std.specs.Prelude.{ℕ, ◌≡◌, ◌≤◌, List}
use Rattle.lockword.specs.Cells.{fields_of}
use Rattle.memorymap.specs.Layouts.{Layout', IsLayout, place_in}
use Rattle.exitwalk.specs.Standings.{Standing}
use Rattle.exitwalk.specs.declared.row.Row.{Row}
use Rattle.exitwalk.specs.declared.row.Row.TheVariants.{Mark}
use Rattle.protocol.specs.declared.event.Event.{Event}
use Rattle.protocol.specs.declared.thread.Stage.TheVariants.{Dying}
use Rattle.protocol.specs.Machine.{State, start, run}

-- as long as the walk of thread t is to mark a word, t owns it: so where another owns it, or nobody, the walk is no
-- more to mark it
abbrev pub StaysOwned : State → ℕ → Row → Type 0
StaysOwned s t (Mark at seen again part) = (fields_of (s.words (place_in s.layout t at))).owner ≡ t
StaysOwned s t r = Unit {0}

-- whatever happens, with any values of the counters at the beginning
abbrev pub WalksGoOn : Type 0
WalksGoOn = (l : Layout') (counters : ℕ → ℕ) (events : List Event) → IsLayout l → (t : ℕ) → 1 ≤ t → t ≤ l.threads
    → (w : Standing) → ((run (start l counters) events).threads t).stage ≡ Dying w
    → StaysOwned (run (start l counters) events) t w.row
