-- What the program did with the bytes of a script.
use Rattle.std.specs.Prelude.{ℕ, ◌≡◌, ◌≤◌, ◌⊎◌, List, length, Option, Ok}
use Rattle.std.specs.Io.KnownBytes.{Consumes, IsAtEnd}
use Rattle.script.specs.declared.command.Mode.TheVariants.{Run}
use Rattle.script.specs.Limits.{max_bytes}
use Rattle.script.specs.Outcome.{TellsAt}
use Rattle.script.specs.Reading.{script_read}
use Rattle.script.specs.Scope.{Scope}
use Rattle.draw_report.specs.declared.messages.Failure.{Failure}
use Rattle.draw_report.specs.declared.messages.Failure.TheVariants.{Usage, CannotRead, CannotWrite}
use Rattle.draw_report.specs.declared.messages.Failure.TheVariants.{OutOfMemory, Script, Unlike, UnlikeHistory, Trace, History, Undecided, Unfit}
use Rattle.draw_report.specs.Served.{IsUnread}

-- all that a reader had, up to its end, is this script
abbrev pub GivesScript : Option (List ℕ) → Option (List ℕ) → Scope → Type 0
GivesScript had left s = (bytes : List ℕ) × Consumes had left bytes × IsAtEnd left × (script_read Run bytes ≡ Ok s)

-- the fault that the reader of scripts tells of these bytes; lack of memory may come before it
abbrev pub IsFaultOf : List ℕ → Failure → Type 0
IsFaultOf bytes Usage = ⊥
IsFaultOf bytes CannotRead = ⊥
IsFaultOf bytes CannotWrite = ⊥
IsFaultOf bytes OutOfMemory = ⊥
IsFaultOf bytes (Script e) = TellsAt e e.fault (script_read Run bytes)
IsFaultOf bytes Unlike = ⊥
IsFaultOf bytes UnlikeHistory = ⊥
IsFaultOf bytes (Trace e) = ⊥
IsFaultOf bytes (History e) = ⊥
IsFaultOf bytes (Undecided line event) = ⊥
IsFaultOf bytes (Unfit e) = ⊥

-- why there is no script: it couldn't be read, or memory was needed; or its bytes, which are all that the reader had,
-- or more than there may be, have this fault
abbrev pub FailsScript : Option (List ℕ) → Option (List ℕ) → Failure → Type 0
FailsScript had left f = IsUnread f
    ⊎ ((bytes : List ℕ) × Consumes had left bytes × (length bytes ≤ max_bytes → IsAtEnd left) × IsFaultOf bytes f)
