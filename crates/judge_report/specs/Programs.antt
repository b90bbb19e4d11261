-- What the program does with the words of its command line.
--
-- *What `rfx-judge` did.* It read a history, and wrote what is said of it (`IsSaid`): that it is legal, which it then is,
-- and with `--waiting` which calls still wait and shouldn't; or up to which line it is. Before that it kept the
-- certificate, where there is one, in the file that `--trace` names, or in a file for each of its windows (`IsFilled`).
-- Or it told why not.
use Rattle.std.specs.Prelude.{ℕ, ◌≡◌, ◌⊎◌, Bool, List, [], Option}
use Rattle.std.specs.Prelude.{Result, Ok, Err, Vec, String, map, string_bytes}
use Rattle.std.specs.declared.io.Error.{Error}
use Rattle.std.specs.declared.alloc.Global.{Global}
use Rattle.std.specs.declared.io.ErrorKind.{ErrorKind}
use Rattle.std.specs.declared.io.ErrorKind.TheVariants as kind
use Rattle.streams.specs.Leaves.{AppendsFront}
use Rattle.judge_report.specs.declared.messages.Failure.{Failure}
use Rattle.judge_report.specs.declared.messages.Failure.TheVariants.{Usage, Overwriting, CannotRead, OutOfMemory}
use Rattle.judge_report.specs.declared.messages.Failure.TheVariants.{CannotKeep, CannotKeepWindow, CannotRemove}
use Rattle.judge_report.specs.Asked.{Asked, Judging, Kept, Nothing, Nowhere, Overwrites, Whole, Windows, asked_of}
use Rattle.judge_report.specs.Messages.{failure_text, failure_status}
use Rattle.judge_report.specs.Served.{Fails, Serves}

-- what the words ask for: the usage, where they can't be had as text
abbrev pub asked_in : Result (Vec (String Global) Global) Error → Asked
asked_in (Ok words) = asked_of (map string_bytes words.items)
asked_in (Err e) = Nothing

-- the failure that an error of opening a file is reported as: memory where memory was refused
abbrev pub unopened_by : ErrorKind → Failure
unopened_by kind.OutOfMemory = OutOfMemory
unopened_by _ = CannotRead

-- a failure is reported, or a beginning of its message, where that can't be written
abbrev pub IsTold : List ℕ → Failure → Option (List ℕ) → Option (List ℕ) → ℕ → Type 0
IsTold file f told told' status = AppendsFront told told' (failure_text file f) × (status ≡ failure_status f)

-- the file that a failure is about: the one that the certificate is kept in, if it couldn't be kept there; else that of
-- the history
abbrev pub place_of : Kept → List ℕ → List ℕ
place_of Nowhere file = file
place_of (Whole out) file = out
place_of (Windows out) file = out

abbrev pub subject_of : Kept → List ℕ → Failure → List ℕ
subject_of kept file CannotKeep = place_of kept file
subject_of kept file (CannotKeepWindow n) = place_of kept file
subject_of kept file (CannotRemove n) = place_of kept file
subject_of kept file f = file

-- how a judgement of the history in a file ended: it was made of what opening the file gave, the writer has let go of
-- what is said, and nothing else was reported; or it wasn't, or not all was said or kept, and that is reported; or the
-- file couldn't be opened
abbrev pub FileEnds : (List ℕ → Result (Option (List ℕ)) ErrorKind → Type 0) → (List ℕ → Option (List ℕ) → Type 0)
    → (List ℕ → Option (List ℕ) → Type 0) → Bool → Kept → List ℕ → Option (List ℕ) → Option (List ℕ) → Type 0 → Type 0
    → Option (List ℕ) → Option (List ℕ) → ℕ → Type 0
FileEnds Opens Makes Fills waiting kept file old new LetGo Quiet told told' status =
    ((had : Option (List ℕ)) × Opens file (Ok had)
    × ((Serves Makes Fills waiting kept had old new status × LetGo × Quiet)
    ⊎ ((f : Failure) × Fails Makes Fills waiting kept had old new LetGo f
    × IsTold (subject_of kept file f) f told told' status)))
    ⊎ ((e : ErrorKind) × Opens file (Err e) × (new ≡ old) × IsTold file (unopened_by e) told told' status)

-- how a command line ended that asks for this
abbrev pub AskedEnds : (List ℕ → Result (Option (List ℕ)) ErrorKind → Type 0) → (List ℕ → Option (List ℕ) → Type 0)
    → (List ℕ → Option (List ℕ) → Type 0) → Asked → Option (List ℕ) → Option (List ℕ) → Type 0 → Type 0
    → Option (List ℕ) → Option (List ℕ) → ℕ → Type 0
AskedEnds Opens Makes Fills Nothing old new LetGo Quiet told told' status = (new ≡ old) × IsTold [] Usage told told' status
AskedEnds Opens Makes Fills (Overwrites file) old new LetGo Quiet told told' status =
    (new ≡ old) × IsTold file Overwriting told told' status
AskedEnds Opens Makes Fills (Judging waiting kept file) old new LetGo Quiet told told' status =
    FileEnds Opens Makes Fills waiting kept file old new LetGo Quiet told told' status

-- how the program ended: as its command line asks; or memory for its words ran out, and that is reported
abbrev pub RunEnds : (List ℕ → Result (Option (List ℕ)) ErrorKind → Type 0) → (List ℕ → Option (List ℕ) → Type 0)
    → (List ℕ → Option (List ℕ) → Type 0) → Asked → Option (List ℕ) → Option (List ℕ) → Type 0 → Type 0
    → Option (List ℕ) → Option (List ℕ) → ℕ → Type 0
RunEnds Opens Makes Fills a old new LetGo Quiet told told' status =
    AskedEnds Opens Makes Fills a old new LetGo Quiet told told' status
    ⊎ ((new ≡ old) × IsTold [] OutOfMemory told told' status)
