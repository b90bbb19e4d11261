-- What the program did with the bytes of its reader.
use Rattle.std.specs.Prelude.{ℕ, ◌≡◌, ◌≤◌, ◌⊎◌, ⊤, List, length, Option}
use Rattle.std.specs.Io.KnownBytes.{Appends, Consumes, IsAtEnd}
use Rattle.streams.specs.Leaves.{AppendsFront}
use Rattle.streams.specs.declared.reading.ReadFault.{ReadFault}
use Rattle.streams.specs.declared.reading.ReadFault.TheVariants as read
use Rattle.verdict.specs.Limits.{max_bytes}
use Rattle.explain.specs.declared.failures.Failure.{Failure}
use Rattle.explain.specs.declared.failures.Failure.TheVariants.{Usage, CannotRead, CannotWrite, OutOfMemory}
use Rattle.explain.specs.Explains.{IsTold}

-- the failure that a fault of reading becomes: memory where memory was refused
abbrev pub failed_by : ReadFault → Failure
failed_by read.Memory = OutOfMemory
failed_by read.Failed = CannotRead

-- it says that the file couldn't be read, or that memory for its bytes was wanted
abbrev pub IsUnread : Failure → Type 0
IsUnread Usage = ⊥
IsUnread CannotRead = ⊤
IsUnread CannotWrite = ⊥
IsUnread OutOfMemory = ⊤

-- all of an explanation of these bytes was written, or a beginning of it
abbrev pub Tells : List ℕ → List ℕ → Option (List ℕ) → Option (List ℕ) → ℕ → Type 0
Tells file bytes old new status = (text : List ℕ) × (IsTold file bytes text status × Appends old new text)

abbrev pub TellsFront : List ℕ → List ℕ → Option (List ℕ) → Option (List ℕ) → Type 0
TellsFront file bytes old new =
    (text : List ℕ) × ((status : ℕ) × (IsTold file bytes text status × AppendsFront old new text))

-- why nothing was said of bytes, or not all: lack of memory, before the first byte; or a write that failed, after a
-- beginning
abbrev pub FailsTelling : List ℕ → List ℕ → Option (List ℕ) → Option (List ℕ) → Failure → Type 0
FailsTelling file bytes old new Usage = ⊥
FailsTelling file bytes old new CannotRead = ⊥
FailsTelling file bytes old new CannotWrite = TellsFront file bytes old new
FailsTelling file bytes old new OutOfMemory = new ≡ old

-- what came of a reader's bytes, which are all that it had, or more than a trace may have
abbrev pub Serves : List ℕ → Option (List ℕ) → Option (List ℕ) → Option (List ℕ) → Option (List ℕ) → ℕ → Type 0
Serves file had left old new status = (bytes : List ℕ)
    × (Consumes had left bytes × ((length bytes ≤ max_bytes → IsAtEnd left) × Tells file bytes old new status))

abbrev pub Comes : List ℕ → Option (List ℕ) → Option (List ℕ) → Option (List ℕ) → Option (List ℕ) → Failure → Type 0
Comes file had left old new f = (bytes : List ℕ)
    × (Consumes had left bytes × ((length bytes ≤ max_bytes → IsAtEnd left) × FailsTelling file bytes old new f))

-- why nothing was said of a file, or not all: before the first byte it couldn't be read, or memory was wanted; or this
-- came of its bytes
abbrev pub Fails : List ℕ → Option (List ℕ) → Option (List ℕ) → Option (List ℕ) → Option (List ℕ) → Failure → Type 0
Fails file had left old new f = (IsUnread f × (new ≡ old)) ⊎ Comes file had left old new f
