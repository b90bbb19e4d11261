-- What the program says on standard error.
use Rattle.std.specs.Prelude.{ℕ, List, [], ◌∷◌, codes, decimal}
use Rattle.std.specs.List.{concat}
use Rattle.script.specs.Faults.{number_of, words_of}
use Rattle.script.specs.declared.fault.ScriptFault.{ScriptFault}
use Rattle.explore_report.specs.declared.exploring.Untold.{Untold}
use Rattle.explore_report.specs.declared.exploring.Untold.TheVariants.{OutOfMemory, Ill, NoThread, NoPattern, NoOutcome, TooLong, Unplayed}
use Rattle.explore_report.specs.declared.messages.Failure.{Failure}
use Rattle.explore_report.specs.declared.messages.Failure.TheVariants.{Usage, Overwriting, CannotRead, CannotWrite, CannotKeep}
use Rattle.explore_report.specs.declared.messages.Failure.TheVariants as failure

-- a script's fault, and its line
abbrev pub fault_text : ℕ → ℕ → List ℕ → List ℕ
fault_text line number words = concat (codes "rfx-explore: line " ∷ decimal line ∷ codes ": fault " ∷ decimal number
    ∷ codes ": " ∷ words ∷ codes "\n" ∷ [])

abbrev pub script_fault_text : ScriptFault → List ℕ
script_fault_text at = fault_text at.line (number_of at.fault) (words_of at.fault)

abbrev pub numbered : List ℕ → ℕ → List ℕ → List ℕ
numbered start n end = concat (start ∷ decimal n ∷ end ∷ [])

-- why nothing is said of a script
abbrev pub untold_text : Untold → List ℕ
untold_text OutOfMemory = concat (codes "rfx-explore: out of memory\n" ∷ [])
untold_text (Ill at) = script_fault_text at
untold_text (NoThread name) = concat (codes "rfx-explore: no thread is called " ∷ name.now ∷ codes "\n" ∷ [])
untold_text (NoPattern words) = concat (codes "rfx-explore: not a pattern: " ∷ words.now ∷ codes "\n" ∷ [])
untold_text (NoOutcome n) = numbered (codes "rfx-explore: no outcome has the number ") n (codes "\n")
untold_text (TooLong n) = numbered (codes "rfx-explore: the script of outcome ") n (codes " is too long\n")
untold_text (Unplayed n) = numbered (codes "rfx-explore: the script of outcome ") n (codes " has another outcome\n")

-- why the script in a file of this name wasn't explored, or that wasn't told
abbrev pub failure_text : List ℕ → Failure → List ℕ
failure_text file Usage = concat (codes "usage: rfx-explore [OPTION].. FILE\n" ∷ [])
failure_text file Overwriting =
    concat (codes "rfx-explore: the script would be written over " ∷ file ∷ codes "\n" ∷ [])
failure_text file CannotRead = concat (codes "rfx-explore: cannot read " ∷ file ∷ codes "\n" ∷ [])
failure_text file CannotWrite = concat (codes "rfx-explore: cannot write\n" ∷ [])
failure_text file (CannotKeep name) = concat (codes "rfx-explore: cannot write " ∷ name.now ∷ codes "\n" ∷ [])
failure_text file (failure.Untold why) = untold_text why

-- the exit status after it
abbrev pub failure_status : Failure → ℕ
failure_status Usage = 2
failure_status Overwriting = 2
failure_status CannotRead = 1
failure_status CannotWrite = 1
failure_status (CannotKeep name) = 1
failure_status (failure.Untold why) = 1
