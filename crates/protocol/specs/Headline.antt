-- What holds of every run.
--
-- *A history of the machine.* The points and deaths among the notes are a legal history from free mutexes, after which
-- each mutex is as its cell says. The law `history_is_legal` states it of every layout and list of events.
--
-- *No reaped owner.* A thread that was reaped owns no mutex. The law `no_reaped_owner` states it of every state that
-- events lead to, and so does each of the machine's calls that makes or changes one.
use Rattle.std.specs.Prelude.{ℕ, ◌≡◌, ◌≢◌, Some, nat_lt, List, [], ◌∷◌, ◌++◌, if◌then◌else◌}
use Rattle.lockword.specs.declared.reply.Reply.TheVariants.{OK}
use Rattle.posixmutex.specs.declared.point.Operation.TheVariants as operation
use Rattle.lockword.specs.Cells.{fields_of}
use Rattle.posixmutex.specs.declared.object.Object.{Object}
use Rattle.posixmutex.specs.declared.point.Decision.{Decision}
use Rattle.memorymap.specs.Layouts.{Layout', IsLayout, cell_place}
use Rattle.posixmutex.specs.Objects.{object_of, fresh}
use Rattle.posixmutex.specs.Histories.{Legal, opening}
use Rattle.protocol.specs.declared.event.Event.{Event}
use Rattle.protocol.specs.declared.note.Note.{Note}
use Rattle.facts.specs.declared.fact.Fact.{Fact}
use Rattle.facts.specs.declared.fact.Fact.TheVariants.{Point, Death}
use Rattle.protocol.specs.declared.thread.Stage.TheVariants.{Reaped}
use Rattle.protocol.specs.Notes.{facts_of}
use Rattle.protocol.specs.Machine.{State, start, run, notes}

-- the decisions among the facts, owners' deaths too, in their order
abbrev pub points_of : List Fact → List Decision
points_of [] = []
points_of (Point d ∷ fs) = d ∷ points_of fs
points_of (Death t m ∷ fs) = record { thread = t; mutex = m; operation = operation.Death; reply = OK } ∷ points_of fs
points_of (f ∷ fs) = points_of fs

abbrev pub points_among : List Note → List Decision
points_among [] = []
points_among (n ∷ ns) = points_of (facts_of n) ++ points_among ns

-- all that the notes tell
abbrev pub facts_among : List Note → List Fact
facts_among [] = []
facts_among (n ∷ ns) = facts_of n ++ facts_among ns

-- what the cell of mutex m says of it
abbrev pub seen : State → ℕ → Object
seen s m = if nat_lt m s.layout.mutexes then object_of (fields_of (s.words (cell_place s.layout m))) else fresh

-- the points among the notes are a legal history, after which every mutex is as its cell says: owner, inconsistent and
-- unusable
abbrev pub IsHistory : State → List Note → Type 0
IsHistory s ns = Legal s.layout.mutexes opening (points_among ns) (seen s)

-- whatever happens, with any values of the counters at the beginning; so it holds after each event
abbrev pub HistoryIsLegal : Type 0
HistoryIsLegal = (l : Layout') (counters : ℕ → ℕ) (events : List Event) → IsLayout l
    → IsHistory (run (start l counters) events) (notes (start l counters) events)

-- a thread that was reaped owns no mutex
abbrev pub NoReapedOwns : State → Type 0
NoReapedOwns s = (m t : ℕ) → (s.threads t).stage ≡ Reaped → (seen s m).owner ≢ Some t

-- whatever happens, kills at any moment included
abbrev pub NoReapedOwner : Type 0
NoReapedOwner =
    (l : Layout') (counters : ℕ → ℕ) (events : List Event) → IsLayout l → NoReapedOwns (run (start l counters) events)
