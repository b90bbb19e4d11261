-- What the program says on standard error.
use Rattle.std.specs.Prelude.{ℕ, List, [], ◌∷◌, codes, decimal}
use Rattle.std.specs.List.{concat}
use Rattle.histories.specs.declared.fault.HistoryFault.{HistoryFault}
use Rattle.histories.specs.Faults as history_faults
use Rattle.script.specs.declared.fault.ScriptFault.{ScriptFault}
use Rattle.script.specs.Faults as script_faults
use Rattle.verdict.specs.declared.fault.TraceFault.{TraceFault}
use Rattle.verdict.specs.Faults as trace_faults
use Rattle.draw_report.specs.declared.messages.Excess.{Excess}
use Rattle.draw_report.specs.declared.messages.Excess.TheVariants.{Mutexes, Conditions, Uncounted}
use Rattle.draw_report.specs.declared.messages.Failure.{Failure}
use Rattle.draw_report.specs.declared.messages.Failure.TheVariants.{Usage, CannotRead, CannotWrite}
use Rattle.draw_report.specs.declared.messages.Failure.TheVariants.{OutOfMemory, Script, Unlike, UnlikeHistory, Trace, History, Undecided, Unfit}

-- a fault with its line, its number and its words, after the start of the line
abbrev pub fault_text : List ℕ → ℕ → ℕ → List ℕ → List ℕ
fault_text start line number words =
    concat (start ∷ decimal line ∷ codes ": fault " ∷ decimal number ∷ codes ": " ∷ words ∷ codes "\n" ∷ [])

-- of the script, as the reader of scripts tells it, and of the trace, as the judge of traces does
abbrev pub script_text : ScriptFault → List ℕ
script_text e = fault_text (codes "rfx-draw: script: line ") e.line (script_faults.number_of e.fault)
    (script_faults.words_of e.fault)

abbrev pub trace_text : TraceFault → List ℕ
trace_text e =
    fault_text (codes "rfx-draw: line ") e.line (trace_faults.number_of e.fault) (trace_faults.words_of e.fault)

-- of a history, as the judge of histories does
abbrev pub history_text : HistoryFault → List ℕ
history_text e =
    fault_text (codes "rfx-draw: line ") e.line (history_faults.number_of e.fault) (history_faults.words_of e.fault)

-- what of a history's first line can't be drawn
abbrev pub excess_words : Excess → List ℕ
excess_words Mutexes = codes "more than 4096 mutexes"
excess_words Conditions = codes "more than 256 condition variables"
excess_words Uncounted = codes "fewer threads or mutexes than its calls name"

abbrev pub unfit_text : Excess → List ℕ
unfit_text e = concat (codes "rfx-draw: cannot draw the history: line 1: " ∷ excess_words e ∷ codes "\n" ∷ [])

-- an undecided history has no trace
abbrev pub undecided_text : ℕ → ℕ → List ℕ
undecided_text line event = concat
    (codes "rfx-draw: cannot draw the history: undecided at line " ∷ decimal line ∷ codes " (event " ∷ decimal event
    ∷ codes ")\n" ∷ [])

-- why a file of this name wasn't drawn
abbrev pub failure_text : List ℕ → Failure → List ℕ
failure_text file Usage = concat
    (codes "usage: rfx-draw [--svg | --html] [--script SCRIPT] [FILE] (in any order) | --legend\n" ∷ [])
failure_text file CannotRead = concat (codes "rfx-draw: cannot read " ∷ file ∷ codes "\n" ∷ [])
failure_text file CannotWrite = concat (codes "rfx-draw: cannot write\n" ∷ [])
failure_text file OutOfMemory = concat (codes "rfx-draw: out of memory\n" ∷ [])
failure_text file (Script e) = script_text e
failure_text file Unlike = concat
    (codes "rfx-draw: script: not of this trace, which has other numbers of threads, mutexes or condition variables\n"
    ∷ [])
failure_text file UnlikeHistory = concat
    (codes "rfx-draw: script: not of this history, which has other numbers of threads, mutexes or condition variables\n"
    ∷ [])
failure_text file (Trace e) = trace_text e
failure_text file (History e) = history_text e
failure_text file (Undecided line event) = undecided_text line event
failure_text file (Unfit e) = unfit_text e

-- the exit status after it
abbrev pub failure_status : Failure → ℕ
failure_status Usage = 2
failure_status CannotRead = 1
failure_status CannotWrite = 1
failure_status OutOfMemory = 1
failure_status (Script e) = 1
failure_status Unlike = 1
failure_status UnlikeHistory = 1
failure_status (Trace e) = 1
failure_status (History e) = 1
failure_status (Undecided line event) = 1
failure_status (Unfit e) = 1
