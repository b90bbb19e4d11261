-- What playing a script gives.
use Rattle.std.specs.Prelude.{ℕ, ◌≡◌, ◌<◌, List, ◌∷◌, ◌++◌, length, Some, None, Result, Ok, Err}
use Rattle.protocol.specs.declared.note.Note.{Note}
use Rattle.protocol.specs.Machine.{State, run, notes}
use Rattle.interleave.specs.declared.trace.Trace.{Trace}
use Rattle.interleave.specs.Runs.{IsLegalRun}
use Rattle.interleave.specs.Shown.{Shown, state_of}
use Rattle.interleave.specs.Traces.{IsOf}
use Rattle.script.specs.declared.command.Command.{Command}
use Rattle.script.specs.declared.fault.Fault.{Fault}
use Rattle.script.specs.declared.fault.Fault.TheVariants.{TooLong, OutOfMemory}
use Rattle.script.specs.declared.fault.ScriptFault.{ScriptFault}
use Rattle.script.specs.Limits.{max_events}
use Rattle.script.specs.Scope.{Scope}
use Rattle.script.specs.Playing.{layout_of, first_state, events_of, events_from, events_in, overlong}

-- there aren't too many events; the trace notes them all, and is that of a legal run; and the machine is as they leave
-- it
pub record IsPlayed (s : Scope) (t : Trace) (m : Shown) : Type 0 where
  pub fits : overlong s ≡ None
  pub numbers : IsOf (layout_of s) t
  pub notes : t.notes.items ≡ notes (first_state s) (events_in s)
  pub legal : IsLegalRun (first_state s) (events_in s) t.notes.items
  pub machine : state_of m ≡ run (first_state s) (events_in s)

-- the command at this line runs an event, and it is one of those that may run: fewer than the limit run before it
pub record RunsAt (s : Scope) (line : ℕ) : Type 0 where
  pub before : List Command
  pub command : Command
  pub after : List Command
  pub stands : s.commands ≡ before ++ command ∷ after
  pub here : command.line ≡ line
  pub some : 0 < length (events_of (run (first_state s) (events_from (first_state s) before)) command.action)
  pub room : length (events_from (first_state s) before) < max_events

-- why the commands, one after the other, stop: the line is that of the first command that would run one event too many;
-- or memory was needed at a command, for the note of an event that may run
abbrev pub RefusesCommand : Scope → ℕ → Fault → Type 0
RefusesCommand s line TooLong = overlong s ≡ Some line
RefusesCommand s line OutOfMemory = RunsAt s line
RefusesCommand s line f = ⊥

-- the commands ran on a new machine, which is as they leave it, and each event was noted; or one of them was refused
abbrev pub PlaysOn : Scope → State → List Note → Result (Unit {0}) ScriptFault → Type 0
PlaysOn s now ns (Ok u) =
    (overlong s ≡ None) × (ns ≡ notes (first_state s) (events_in s)) × (now ≡ run (first_state s) (events_in s))
PlaysOn s now ns (Err e) = RefusesCommand s e.line e.fault

-- all of it, on the first machine; or a command is refused
abbrev pub PlaysTo : Scope → Result (Trace × Shown) ScriptFault → Type 0
PlaysTo s (Ok p) = IsPlayed s p.0 p.1
PlaysTo s (Err e) = RefusesCommand s e.line e.fault
