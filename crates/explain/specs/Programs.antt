-- What the program does with the words of its command line.
--
-- *What `rfx-explain` did.* It wrote the text of an explanation of the bytes, or a beginning of it, or told why not.
-- The title of an explanation is what the readers find: for a script the first fault in each mode (`IsFaultOf`), for a
-- trace the judge's finding. What is marked, said and gone back to beside it is `IsAdvised`: of an unknown word that it
-- is the first wrong one of its line (`IsStray`, `MarksFirstWrong`), of a number, a name or a line that doesn't fit
-- which of the reasons of each is said.
use Rattle.std.specs.Prelude.{ℕ, ◌≡◌, ◌⊎◌, List, [], Option, Some, None}
use Rattle.std.specs.Prelude.{Result, Ok, Err, Vec, String, map, string_bytes}
use Rattle.std.specs.declared.io.Error.{Error}
use Rattle.std.specs.declared.alloc.Global.{Global}
use Rattle.std.specs.declared.io.ErrorKind.{ErrorKind}
use Rattle.std.specs.declared.io.ErrorKind.TheVariants as kind
use Rattle.streams.specs.Leaves.{AppendsFront}
use Rattle.explain.specs.declared.failures.Failure.{Failure}
use Rattle.explain.specs.declared.failures.Failure.TheVariants.{Usage, CannotRead, OutOfMemory}
use Rattle.explain.specs.Asked.{Asked, asked_of}
use Rattle.explain.specs.Failures.{failure_text, failure_status}
use Rattle.explain.specs.Served.{Fails, Serves}

-- what the words ask for: the usage, where they can't be had as text
abbrev pub asked_in : Result (Vec (String Global) Global) Error → Asked
asked_in (Ok words) = asked_of (map string_bytes words.items)
asked_in (Err e) = None

-- the failure that an error of opening a file becomes: memory where memory was refused
abbrev pub unopened_by : ErrorKind → Failure
unopened_by kind.OutOfMemory = OutOfMemory
unopened_by _ = CannotRead

-- a failure is said, or a beginning of its message, where that can't be written
abbrev pub IsTold : List ℕ → Failure → Option (List ℕ) → Option (List ℕ) → ℕ → Type 0
IsTold file f told told' status = AppendsFront told told' (failure_text file f) × (status ≡ failure_status f)

-- how an explanation of a file ended: it was written of what opening the file gave, the writer has let go of it, and
-- nothing was said; or it wasn't, or not all of it, and that is said; or the file couldn't be opened
abbrev pub FileEnds : (List ℕ → Result (Option (List ℕ)) ErrorKind → Type 0) → List ℕ → Option (List ℕ)
    → Option (List ℕ) → Type 0 → Type 0 → Option (List ℕ) → Option (List ℕ) → ℕ → Type 0
FileEnds Opens file old new LetGo Quiet told told' status =
    ((had : Option (List ℕ)) × Opens file (Ok had) × (left : Option (List ℕ))
    × ((Serves file had left old new status × LetGo × Quiet)
    ⊎ ((f : Failure) × Fails file had left old new f × IsTold file f told told' status)))
    ⊎ ((e : ErrorKind) × Opens file (Err e) × (new ≡ old) × IsTold file (unopened_by e) told told' status)

-- how a command line ended that asks for this
abbrev pub AskedEnds : (List ℕ → Result (Option (List ℕ)) ErrorKind → Type 0) → Asked → Option (List ℕ)
    → Option (List ℕ) → Type 0 → Type 0 → Option (List ℕ) → Option (List ℕ) → ℕ → Type 0
AskedEnds Opens None old new LetGo Quiet told told' status = (new ≡ old) × IsTold [] Usage told told' status
AskedEnds Opens (Some file) old new LetGo Quiet told told' status =
    FileEnds Opens file old new LetGo Quiet told told' status

-- how the program ended: as its command line asks; or memory for its words was wanted, and that is said
abbrev pub RunEnds : (List ℕ → Result (Option (List ℕ)) ErrorKind → Type 0) → Asked → Option (List ℕ) → Option (List ℕ)
    → Type 0 → Type 0 → Option (List ℕ) → Option (List ℕ) → ℕ → Type 0
RunEnds Opens a old new LetGo Quiet told told' status =
    AskedEnds Opens a old new LetGo Quiet told told' status ⊎ ((new ≡ old) × IsTold [] OutOfMemory told told' status)
