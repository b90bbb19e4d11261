-- What the program says on standard error.
--
-- *Text of a message.* What is reported on standard error: the usage; `cannot read` with the file's name, `cannot
-- write`, `out of memory`; or a fault with its line, its number and its words.
use Rattle.std.specs.Prelude.{ℕ, List, [], ◌∷◌, codes, decimal}
use Rattle.std.specs.List.{concat}
use Rattle.script.specs.Faults as script_faults
use Rattle.verdict.specs.Faults as trace_faults
use Rattle.report.specs.declared.messages.Failure.{Failure}
use Rattle.report.specs.declared.messages.Failure.TheVariants.{Usage, CannotRead, CannotWrite}
use Rattle.report.specs.declared.messages.Failure.TheVariants.{OutOfMemory, Script, Trace}

-- a fault with its line and its number
abbrev pub fault_text : ℕ → ℕ → List ℕ → List ℕ
fault_text line number words = concat
    (codes "rfx: line " ∷ decimal line ∷ codes ": fault " ∷ decimal number ∷ codes ": " ∷ words ∷ codes "\n" ∷ [])

-- why a file of this name wasn't served
abbrev pub failure_text : List ℕ → Failure → List ℕ
failure_text file Usage = concat (codes "usage: rfx run [--table] FILE | rfx threads FILE | rfx check FILE\n" ∷ [])
failure_text file CannotRead = concat (codes "rfx: cannot read " ∷ file ∷ codes "\n" ∷ [])
failure_text file CannotWrite = concat (codes "rfx: cannot write\n" ∷ [])
failure_text file OutOfMemory = concat (codes "rfx: out of memory\n" ∷ [])
failure_text file (Script e) = fault_text e.line (script_faults.number_of e.fault) (script_faults.words_of e.fault)
failure_text file (Trace e) = fault_text e.line (trace_faults.number_of e.fault) (trace_faults.words_of e.fault)

-- the exit status after it
abbrev pub failure_status : Failure → ℕ
failure_status Usage = 2
failure_status CannotRead = 1
failure_status CannotWrite = 1
failure_status OutOfMemory = 1
failure_status (Script e) = 1
failure_status (Trace e) = 1
