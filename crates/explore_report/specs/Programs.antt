-- What the program does with the words of its command line.
--
-- *What `rfx-explore` did.* It read a script, explored it, wrote the script of an outcome to the file that was named for
-- it, if one was, and wrote what is said (`IsTold`). Or it told why not.
use Rattle.std.specs.Prelude.{ℕ, ◌≡◌, ◌⊎◌, List, [], Option, Result, Ok, Err, Vec, String, map, string_bytes}
use Rattle.std.specs.declared.alloc.Global.{Global}
use Rattle.std.specs.declared.io.Error.{Error}
use Rattle.std.specs.declared.io.ErrorKind.{ErrorKind}
use Rattle.std.specs.declared.io.ErrorKind.TheVariants as kind
use Rattle.streams.specs.Leaves.{AppendsFront}
use Rattle.explore_report.specs.declared.exploring.Untold.TheVariants as untold
use Rattle.explore_report.specs.declared.messages.Failure.{Failure}
use Rattle.explore_report.specs.declared.messages.Failure.TheVariants.{Usage, Overwriting, CannotRead, Untold}
use Rattle.explore_report.specs.Asked.{Asked, Choices, Explores, Nothing, Overwrites, asked_of}
use Rattle.explore_report.specs.Messages.{failure_status, failure_text}
use Rattle.explore_report.specs.Served.{Fails, Serves}

-- what the words ask for: the usage, where they can't be had as text
abbrev pub asked_in : Result (Vec (String Global) Global) Error → Asked
asked_in (Ok words) = asked_of (map string_bytes words.items)
asked_in (Err e) = Nothing

-- the failure that an error of opening a file is reported as: memory where memory was refused
abbrev pub unopened_by : ErrorKind → Failure
unopened_by kind.OutOfMemory = Untold untold.OutOfMemory
unopened_by _ = CannotRead

-- a failure is reported, or a beginning of its message, where that can't be written
abbrev pub IsReported : List ℕ → Failure → Option (List ℕ) → Option (List ℕ) → ℕ → Type 0
IsReported file f told told' status = AppendsFront told told' (failure_text file f) × (status ≡ failure_status f)

-- how exploring the script in a file ended: of what opening the file gave all was said, the writer has let go of it, and
-- nothing else was reported; or not, which is reported; or the file couldn't be opened
abbrev pub FileEnds : (List ℕ → Result (Option (List ℕ)) ErrorKind → Type 0) → (List ℕ → Option (List ℕ) → Type 0)
    → (List ℕ → Option (List ℕ) → Type 0) → Choices → List ℕ → Option (List ℕ) → Option (List ℕ) → Type 0 → Type 0
    → Option (List ℕ) → Option (List ℕ) → ℕ → Type 0
FileEnds Opens Makes Fills c file old new LetGo Quiet told told' status =
    ((had left : Option (List ℕ)) × Opens file (Ok had)
    × ((Serves Makes Fills c had left old new status × LetGo × Quiet)
    ⊎ ((f : Failure) × Fails Makes Fills c had left old new f × IsReported file f told told' status)))
    ⊎ ((e : ErrorKind) × Opens file (Err e) × (new ≡ old) × IsReported file (unopened_by e) told told' status)

-- how a command line ended that asks for this
abbrev pub AskedEnds : (List ℕ → Result (Option (List ℕ)) ErrorKind → Type 0) → (List ℕ → Option (List ℕ) → Type 0)
    → (List ℕ → Option (List ℕ) → Type 0) → Asked → Option (List ℕ) → Option (List ℕ) → Type 0 → Type 0
    → Option (List ℕ) → Option (List ℕ) → ℕ → Type 0
AskedEnds Opens Makes Fills Nothing old new LetGo Quiet told told' status =
    (new ≡ old) × IsReported [] Usage told told' status
AskedEnds Opens Makes Fills (Overwrites file) old new LetGo Quiet told told' status =
    (new ≡ old) × IsReported file Overwriting told told' status
AskedEnds Opens Makes Fills (Explores c file) old new LetGo Quiet told told' status =
    FileEnds Opens Makes Fills c file old new LetGo Quiet told told' status

-- how the program ended: as its command line asks; or memory for its words ran out, and that is reported
abbrev pub RunEnds : (List ℕ → Result (Option (List ℕ)) ErrorKind → Type 0) → (List ℕ → Option (List ℕ) → Type 0)
    → (List ℕ → Option (List ℕ) → Type 0) → Asked → Option (List ℕ) → Option (List ℕ) → Type 0 → Type 0
    → Option (List ℕ) → Option (List ℕ) → ℕ → Type 0
RunEnds Opens Makes Fills a old new LetGo Quiet told told' status =
    AskedEnds Opens Makes Fills a old new LetGo Quiet told told' status
    ⊎ ((new ≡ old) × IsReported [] (Untold untold.OutOfMemory) told told' status)
