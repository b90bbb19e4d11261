-- What the program says on standard error.
use Rattle.std.specs.Prelude.{ℕ, List, [], ◌∷◌, codes, decimal}
use Rattle.std.specs.List.{concat}
use Rattle.histories.specs.declared.fault.HistoryFault.{HistoryFault}
use Rattle.histories.specs.Faults.{number_of, words_of}
use Rattle.judge_report.specs.declared.messages.Failure.{Failure}
use Rattle.judge_report.specs.declared.messages.Failure.TheVariants.{Usage, Overwriting, CannotRead, CannotWrite, CannotKeep, CannotKeepWindow, CannotRemove}
use Rattle.judge_report.specs.declared.messages.Failure.TheVariants.{TooMany, NoPlace, OutOfMemory, Ill}

-- a fault of a history's text, and its line
abbrev pub fault_text : List ℕ → ℕ → ℕ → List ℕ → List ℕ
fault_text start line number words = concat
    (start ∷ decimal line ∷ codes ": fault " ∷ decimal number ∷ codes ": " ∷ words ∷ codes "\n" ∷ [])

abbrev pub history_fault_text : HistoryFault → List ℕ
history_fault_text at = fault_text (codes "rfx-judge: line ") at.line (number_of at.fault) (words_of at.fault)

-- what couldn't be done with the file of a window
abbrev pub window_failure_text : List ℕ → List ℕ → ℕ → List ℕ
window_failure_text start out n = concat (start ∷ out ∷ codes "." ∷ decimal n ∷ codes "\n" ∷ [])

-- why the history in a file of this name wasn't judged, or that wasn't told; or its certificate wasn't kept in a file of
-- this name, or in a window's, whose name begins so
abbrev pub failure_text : List ℕ → Failure → List ℕ
failure_text file Usage = concat (codes "usage: rfx-judge [--waiting] [--trace OUT | --windows OUT] FILE\n" ∷ [])
failure_text file Overwriting = concat (codes "rfx-judge: the trace would be written over " ∷ file ∷ codes "\n" ∷ [])
failure_text file CannotRead = concat (codes "rfx-judge: cannot read " ∷ file ∷ codes "\n" ∷ [])
failure_text file CannotWrite = concat (codes "rfx-judge: cannot write\n" ∷ [])
failure_text file CannotKeep = concat (codes "rfx-judge: cannot write " ∷ file ∷ codes "\n" ∷ [])
failure_text file (CannotKeepWindow n) = window_failure_text (codes "rfx-judge: cannot write ") file n
failure_text file (CannotRemove n) = window_failure_text (codes "rfx-judge: cannot remove ") file n
failure_text file TooMany = concat
    (codes "rfx-judge: cannot cut the certificate: a window has at most 4096 mutexes and 256 condition variables\n" ∷ [])
failure_text file NoPlace = concat
    (codes "rfx-judge: cannot cut the certificate: no place was found\n" ∷ [])
failure_text file OutOfMemory = concat (codes "rfx-judge: out of memory\n" ∷ [])
failure_text file (Ill at) = history_fault_text at

-- the exit status after it
abbrev pub failure_status : Failure → ℕ
failure_status Usage = 2
failure_status Overwriting = 2
failure_status CannotRead = 1
failure_status CannotWrite = 1
failure_status CannotKeep = 1
failure_status (CannotKeepWindow n) = 1
failure_status (CannotRemove n) = 1
failure_status TooMany = 1
failure_status NoPlace = 1
failure_status OutOfMemory = 1
failure_status (Ill f) = 1
