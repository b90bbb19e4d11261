-- Why nothing, or not all, of what a command line asks for was written, and what is known then.
--
-- *Failed.* Why nothing was written, or a beginning: the file couldn't be read, or memory was needed, before the
-- first byte; what was read has this fault, or wants memory at a line before it; or a writer failed after a
-- beginning of what the bytes mean.
--
-- *How a form ended.* It wrote what it had to, the writer has let go of that (`is_let_go`), and nothing was
-- reported; or it failed, and that is reported, or a beginning of it. The program serves the form that its words ask
-- for so, from what opening their FILE gave; or it tells that this couldn't be opened, or that memory for its words
-- was wanted.
use Rattle.std.specs.Prelude.{ℕ, ◌≡◌, ◌≤◌, ◌⊎◌, ⊤, List, [], length, Option, Ok, Err}
use Rattle.std.specs.Io.KnownBytes.{Consumes, IsAtEnd}
use Rattle.script.specs.declared.fault.Fault.TheVariants as fault
use Rattle.script.specs.declared.fault.ScriptFault.{ScriptFault}
use Rattle.script.specs.Limits.{max_bytes}
use Rattle.script.specs.Outcome.{TellsAt, SpeaksAt}
use Rattle.script.specs.Played.{RefusesCommand}
use Rattle.script.specs.Reading.{script_read}
use Rattle.script.specs.Scope.{Scope}
use Rattle.verdict.specs.Limits as traces
use Rattle.verdict.specs.Reading.{trace_read}
use Rattle.verdict.specs.Verdicts.{Answers}
use Rattle.streams.specs.Leaves.{AppendsFront}
use Rattle.cmdline.specs.declared.form.Form.{Form}
use Rattle.cmdline.specs.declared.form.Form.TheVariants as form
use Rattle.report.specs.declared.messages.Failure.{Failure}
use Rattle.report.specs.declared.messages.Failure.TheVariants.{Usage, CannotRead, CannotWrite}
use Rattle.report.specs.declared.messages.Failure.TheVariants.{OutOfMemory, Script, Trace}
use Rattle.streams.specs.declared.reading.ReadFault.{ReadFault}
use Rattle.streams.specs.declared.reading.ReadFault.TheVariants as read
use Rattle.report.specs.declared.threads.Answers.{Answers as Replies}
use Rattle.report.specs.Messages.{failure_text, failure_status}
use Rattle.report.specs.Served.{Report, trace, table, replies, mode_of, Served, TellsFront, WrittenFront}
use Rattle.report.specs.Verdicts.{JudgedFront, Judged}

-- the failure that a fault of reading is reported as: memory where memory was refused
abbrev pub failed_by : ReadFault → Failure
failed_by read.Memory = OutOfMemory
failed_by read.Failed = CannotRead

-- it says that the file couldn't be opened or read, or that memory for its bytes was wanted
abbrev pub IsUnread : Failure → Type 0
IsUnread Usage = ⊥
IsUnread CannotRead = ⊤
IsUnread CannotWrite = ⊥
IsUnread OutOfMemory = ⊤
IsUnread (Script e) = ⊥
IsUnread (Trace e) = ⊥

-- memory is needed before a script's first command: for its machine, or for what real threads are asked
abbrev pub WantsAtFirst : ScriptFault → Type 0
WantsAtFirst e = e ≡ record { line = 1; fault = fault.OutOfMemory }

-- what stops a script that was read: a command that can't be played, or lack of memory before the first one
abbrev pub Stops : Report → Scope → ScriptFault → Type 0
Stops trace s e = RefusesCommand s e.line e.fault ⊎ WantsAtFirst e
Stops table s e = RefusesCommand s e.line e.fault ⊎ WantsAtFirst e
Stops replies s e = WantsAtFirst e

-- what is wrong with these bytes as a script: their first fault, or lack of memory at a line before it that says
-- something; or what stops the script that they are
abbrev pub IsFaultOf : Report → List ℕ → ScriptFault → Type 0
IsFaultOf k bytes e = (TellsAt e e.fault (script_read (mode_of k) bytes)
    × (e.fault ≡ fault.OutOfMemory → SpeaksAt bytes e.line))
    ⊎ ((s : Scope) × (script_read (mode_of k) bytes ≡ Ok s) × Stops k s e)

-- memory that no line asks for is wanted by real threads alone, of a script that was read
abbrev pub WantsMemory : Report → List ℕ → Type 0
WantsMemory trace bytes = ⊥
WantsMemory table bytes = ⊥
WantsMemory replies bytes = (s : Scope) × (script_read (mode_of replies) bytes ≡ Ok s)

-- why what is reported of a script with these bytes wasn't written, or not all: a fault of the script, or lack of
-- memory, before the first byte; or a writer that failed after a beginning
abbrev pub Fails : Report → List ℕ → Option (List ℕ) → Option (List ℕ) → Failure → Type 0
Fails k bytes old new Usage = ⊥
Fails k bytes old new CannotRead = ⊥
Fails k bytes old new CannotWrite = WrittenFront k old new bytes
Fails k bytes old new OutOfMemory = (new ≡ old) × WantsMemory k bytes
Fails k bytes old new (Script e) = (new ≡ old) × IsFaultOf k bytes e
Fails k bytes old new (Trace e) = ⊥

-- why what real threads were answered wasn't written, or not all
abbrev pub FailsTelling : Scope → Replies → Option (List ℕ) → Option (List ℕ) → Failure → Type 0
FailsTelling s a old new Usage = ⊥
FailsTelling s a old new CannotRead = ⊥
FailsTelling s a old new CannotWrite = TellsFront old new s a
FailsTelling s a old new OutOfMemory = new ≡ old
FailsTelling s a old new (Script e) = ⊥
FailsTelling s a old new (Trace e) = ⊥

-- why no verdict on a trace was written, or not all of it
abbrev pub FailsTrace : List ℕ → Option (List ℕ) → Option (List ℕ) → Failure → Type 0
FailsTrace bytes old new Usage = ⊥
FailsTrace bytes old new CannotRead = ⊥
FailsTrace bytes old new CannotWrite = JudgedFront old new bytes
FailsTrace bytes old new OutOfMemory = ⊥
FailsTrace bytes old new (Script e) = ⊥
FailsTrace bytes old new (Trace e) = (new ≡ old) × Answers (trace_read bytes) (Err e)

-- the same for a reader's file: before the first byte it couldn't be read, or memory was needed; or this came of its
-- bytes, which are all that it had, or more than there may be
abbrev pub FailsAt : ℕ → (List ℕ → Failure → Type 0) → Option (List ℕ) → Option (List ℕ) → Option (List ℕ)
    → Option (List ℕ) → Failure → Type 0
FailsAt most Comes had left old new Usage = ⊥
FailsAt most Comes had left old new CannotRead = new ≡ old
FailsAt most Comes had left old new OutOfMemory = new ≡ old
FailsAt most Comes had left old new CannotWrite =
    (bytes : List ℕ) × Consumes had left bytes × (length bytes ≤ most → IsAtEnd left) × Comes bytes CannotWrite
FailsAt most Comes had left old new (Script e) =
    (bytes : List ℕ) × Consumes had left bytes × (length bytes ≤ most → IsAtEnd left) × Comes bytes (Script e)
FailsAt most Comes had left old new (Trace e) =
    (bytes : List ℕ) × Consumes had left bytes × (length bytes ≤ most → IsAtEnd left) × Comes bytes (Trace e)

-- what a form failed by
abbrev pub FailsAs : Form → Option (List ℕ) → Option (List ℕ) → Option (List ℕ) → Option (List ℕ) → Failure → Type 0
FailsAs (form.Run file) had left old new f =
    FailsAt max_bytes (λ bytes g. Fails trace bytes old new g) had left old new f
FailsAs (form.Table file) had left old new f =
    FailsAt max_bytes (λ bytes g. Fails table bytes old new g) had left old new f
FailsAs (form.Threads file) had left old new f =
    FailsAt max_bytes (λ bytes g. Fails replies bytes old new g) had left old new f
FailsAs (form.Check file) had left old new f =
    FailsAt traces.max_bytes (λ bytes g. FailsTrace bytes old new g) had left old new f
FailsAs form.Usage had left old new f = (f ≡ Usage) × (new ≡ old)

-- what a form wrote, and the status of that
abbrev pub EndsAs : Form → Option (List ℕ) → Option (List ℕ) → Option (List ℕ) → Option (List ℕ) → ℕ → Type 0
EndsAs (form.Run file) had left old new status = (status ≡ 0) × Served trace had left old new
EndsAs (form.Table file) had left old new status = (status ≡ 0) × Served table had left old new
EndsAs (form.Threads file) had left old new status = (status ≡ 0) × Served replies had left old new
EndsAs (form.Check file) had left old new status = Judged had left old new status
EndsAs form.Usage had left old new status = ⊥

-- the file that a form names
abbrev pub file_of : Form → List ℕ
file_of (form.Run file) = file.now
file_of (form.Table file) = file.now
file_of (form.Threads file) = file.now
file_of (form.Check file) = file.now
file_of form.Usage = []

-- how a form ended: it wrote what it had to, the writer has let go of it, and nothing was reported; or it failed,
-- and that is reported, or a beginning of it, where it can't be written
abbrev pub Ends : Form → Option (List ℕ) → Option (List ℕ) → Option (List ℕ) → Option (List ℕ) → Type 0 → Type 0
    → Option (List ℕ) → Option (List ℕ) → ℕ → Type 0
Ends f had left old new LetGo Quiet told told' status = (EndsAs f had left old new status × LetGo × Quiet)
    ⊎
    ((g : Failure) × FailsAs f had left old new g × AppendsFront told told' (failure_text (file_of f) g)
    × (status ≡ failure_status g))
