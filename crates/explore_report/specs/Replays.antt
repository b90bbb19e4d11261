-- Playing the script of an outcome.
--
-- *Replayed.* A text is a script for `rfx run`, it isn't too long to be played, and its run ends so: as many threads as
-- the outcome has, each with these replies, and dead, or asleep on that mutex or condition variable, or neither; and as many mutexes,
-- each left so.
--
-- *Too long.* A text passes a limit of scripts: in bytes, lines or events.
use Rattle.std.specs.Prelude.{ℕ, ◌≡◌, ◌+◌, ◌==◌, ◌≢◌, ◌⊎◌, ◌&&◌, not, Bool, true, false, List, [], ◌∷◌, Ok, Err, Option, Some, None, length, nat_lt, slice_get, if◌then◌else◌}
use Rattle.std.specs.List.{flat_map}
use Rattle.interleave.specs.Reapings.{is_reaped}
use Rattle.lockword.specs.declared.reply.Reply.{Reply}
use Rattle.memorymap.specs.Layouts.{cell_place, counter_place}
use Rattle.protocol.specs.Headline.{seen}
use Rattle.protocol.specs.Machine.{State, notes, run}
use Rattle.protocol.specs.Machine as machine
use Rattle.protocol.specs.declared.note.Note.{Note}
use Rattle.protocol.specs.declared.note.Note.TheVariants.{Began, Stepped}
use Rattle.posixmutex.specs.declared.object.Object.{Object}
use Rattle.script.specs.Playing.{events_in, first_state, overlong}
use Rattle.script.specs.Reading.{script_read}
use Rattle.script.specs.Scope.{Scope}
use Rattle.script.specs.declared.command.Mode.TheVariants.{Run}
use Rattle.script.specs.declared.fault.Fault.{Fault}
use Rattle.script.specs.declared.fault.Fault.TheVariants as fault
use Rattle.script.specs.declared.fault.ScriptFault.{ScriptFault}
use Rattle.outcomes.specs.declared.outcome.End.{End}
use Rattle.outcomes.specs.declared.outcome.End.TheVariants.{OnMutex, OnCondition}
use Rattle.outcomes.specs.declared.outcome.Ended.{Ended}
use Rattle.outcomes.specs.declared.outcome.Outcome.{Outcome}
use Rattle.explore_report.specs.Patterns.{is_dead}
use Rattle.explore_report.specs.declared.replaying.Replay.{Replay}
use Rattle.explore_report.specs.declared.replaying.Replay.TheVariants.{Same, TooLong, Other}

-- what a call of thread u returned, if that is thread t
abbrev pub returned_to : ℕ → ℕ → Option Reply → List Reply
returned_to t u None = []
returned_to t u (Some x) = if u == t then x ∷ [] else []

-- what thread t's call returned at an event, as the note says: at its begin, if it is refused, or at a step
abbrev pub told_in : ℕ → Note → List Reply
told_in t (Began u c x) = returned_to t u x
told_in t (Stepped u m point slept woken moved x) = returned_to t u x
told_in t n = []

-- what thread t's calls returned
abbrev pub replies_of : ℕ → List Note → List Reply
replies_of t ns = flat_map (told_in t) ns

-- thread t stands in the queue of this mutex, or of this condition variable, if there is one; or it doesn't sleep
abbrev pub sleeps_so : State → ℕ → End → Bool
sleeps_so s t (OnMutex m) = nat_lt m s.layout.mutexes && machine.stands_in t (s.queues (cell_place s.layout m))
sleeps_so s t (OnCondition k) =
    nat_lt k (length s.layout.conditions) && machine.stands_in t (s.queues (counter_place s.layout k))
sleeps_so s t e = not (machine.is_asleep s t)

-- thread t of a machine ended so, of whose run this was noted
pub record HasEnded (s : State) (ns : List Note) (t : ℕ) (e : Ended) : Type 0 where
  pub replies : replies_of t ns ≡ e.replies.items
  pub dead : is_reaped s t ≡ is_dead e.end
  pub asleep : sleeps_so s t e.end ≡ true

-- so did each of the first threads. Ids begin at 1
abbrev pub HaveEnded : State → List Note → List Ended → Type 0
HaveEnded s ns ended = (i : ℕ) (e : Ended) → slice_get ended i ≡ Some e → HasEnded s ns (i + 1) e

-- each of the first mutexes is left so
abbrev pub AreLeft : State → List Object → Type 0
AreLeft s objects = (m : ℕ) (x : Object) → slice_get objects m ≡ Some x → seen s m ≡ x

pub record HasAsMany (s : State) (o : Outcome) : Type 0 where
  pub threads : length o.threads.items ≡ s.layout.threads
  pub mutexes : length o.mutexes.items ≡ s.layout.mutexes

-- a machine, of whose run this was noted, has an outcome
pub record Shows (s : State) (ns : List Note) (o : Outcome) : Type 0 where
  pub many : HasAsMany s o
  pub threads : HaveEnded s ns o.threads.items
  pub mutexes : AreLeft s o.mutexes.items

-- a script's run has this outcome
pub record Plays (scope : Scope) (o : Outcome) : Type 0 where
  pub fits : overlong scope ≡ None
  pub shows : Shows (run (first_state scope) (events_in scope)) (notes (first_state scope) (events_in scope)) o

-- a text is a script for `rfx run`, and its run has this outcome
pub record Replays (text : List ℕ) (o : Outcome) : Type 0 where
  pub scope : Scope
  pub read : script_read Run text ≡ Ok scope
  pub plays : Plays scope o

-- a text isn't read as a script, as it passes a limit
pub record IsExcessive (text : List ℕ) : Type 0 where
  pub at : ScriptFault
  pub read : script_read Run text ≡ Err at
  pub kind : at.fault ≡ fault.TooLong

-- it is a script, with more events than may be played
pub record IsOverlong (text : List ℕ) : Type 0 where
  pub scope : Scope
  pub read : script_read Run text ≡ Ok scope
  pub line : ℕ
  pub over : overlong scope ≡ Some line

-- `rfx run` refuses it, as it is too long
abbrev pub IsTooLong : List ℕ → Type 0
IsTooLong text = IsExcessive text ⊎ IsOverlong text

-- what came of playing a script that was read: its run has the outcome; or it is too long; or neither
abbrev pub PlayCame : Scope → Outcome → Replay → Type 0
PlayCame scope o Same = Plays scope o
PlayCame scope o TooLong = (line : ℕ) × (overlong scope ≡ Some line)
PlayCame scope o Other = (Plays scope o → ⊥) × ((line : ℕ) → overlong scope ≡ Some line → ⊥)

abbrev pub replay_of : Bool → Replay
replay_of true = Same
replay_of false = Other

-- its run has the outcome, or it is too long to be played
abbrev pub is_settled : Replay → Bool
is_settled Same = true
is_settled TooLong = true
is_settled Other = false

-- what a fault says of a script: that it is too long, or that it isn't played, if memory wasn't refused
abbrev pub Refuses : Fault → Replay → Type 0
Refuses f Same = ⊥
Refuses f TooLong = f ≡ fault.TooLong
Refuses f Other = (f ≢ fault.TooLong) × (f ≢ fault.OutOfMemory)

-- what came of a text: its run has the outcome; or it is too long; or neither
abbrev pub Came : List ℕ → Outcome → Replay → Type 0
Came text o Same = Replays text o
Came text o TooLong = IsTooLong text
Came text o Other = (Replays text o → ⊥) × (IsTooLong text → ⊥)
