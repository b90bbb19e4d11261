-- What the program did with the bytes of its reader.
use Rattle.std.specs.Prelude.{ℕ, ◌≡◌, ◌≤◌, ◌⊎◌, List, length, Option}
use Rattle.std.specs.Io.KnownBytes.{Appends, Consumes, IsAtEnd}
use Rattle.script.specs.Limits.{max_bytes}
use Rattle.streams.specs.Leaves.{AppendsFront}
use Rattle.streams.specs.declared.reading.ReadFault.{ReadFault}
use Rattle.streams.specs.declared.reading.ReadFault.TheVariants as read
use Rattle.explore_report.specs.declared.exploring.Untold.TheVariants as untold
use Rattle.explore_report.specs.declared.exploring.Untold.{Untold as Untold'}
use Rattle.explore_report.specs.declared.messages.Failure.{Failure}
use Rattle.explore_report.specs.declared.messages.Failure.TheVariants.{Usage, Overwriting, CannotRead, CannotWrite, CannotKeep, Untold}
use Rattle.explore_report.specs.Asked.{Choices, Kept}
use Rattle.explore_report.specs.Kept.{IsFilled, IsUnfilled}
use Rattle.explore_report.specs.Told.{IsTold, Untells}

-- the failure that a fault of reading becomes: memory where memory was refused
abbrev pub failed_by : ReadFault → Failure
failed_by read.Memory = Untold untold.OutOfMemory
failed_by read.Failed = CannotRead

abbrev pub IsMemory : Untold' → Type 0
IsMemory why = why ≡ untold.OutOfMemory

-- it says that the file couldn't be read, or that memory for its bytes was needed
abbrev pub IsUnread : Failure → Type 0
IsUnread Usage = ⊥
IsUnread Overwriting = ⊥
IsUnread CannotRead = Unit {0}
IsUnread CannotWrite = ⊥
IsUnread (CannotKeep name) = ⊥
IsUnread (Untold why) = IsMemory why

-- these bytes are all that a reader had, or more than a script may have
pub record IsRead (had left : Option (List ℕ)) (bytes : List ℕ) : Type 0 where
  pub taken : Consumes had left bytes
  pub end : length bytes ≤ max_bytes → IsAtEnd left

-- of these bytes all was written that is said of them, to the file of the script that is wanted, too; this is the exit
-- status
pub record ServesBytes (Makes Fills : List ℕ → Option (List ℕ) → Type 0) (c : Choices) (bytes : List ℕ)
    (old new : Option (List ℕ)) (status : ℕ) : Type 0 where
  pub text : List ℕ
  pub script : Option (List ℕ)
  pub told : IsTold bytes c text script status
  pub filled : IsFilled Makes Fills c.script script
  pub written : Appends old new text

-- the same, but only a beginning of the text was written
pub record ServesFront (Makes Fills : List ℕ → Option (List ℕ) → Type 0) (c : Choices) (bytes : List ℕ)
    (old new : Option (List ℕ)) : Type 0 where
  pub text : List ℕ
  pub script : Option (List ℕ)
  pub status : ℕ
  pub told : IsTold bytes c text script status
  pub filled : IsFilled Makes Fills c.script script
  pub written : AppendsFront old new text

-- why not: nothing is said of these bytes, or the file of the script couldn't be written, and then nothing was; or a write
-- failed, after a beginning
abbrev pub FailsBytes : (List ℕ → Option (List ℕ) → Type 0) → (List ℕ → Option (List ℕ) → Type 0) → Choices → List ℕ
    → Option (List ℕ) → Option (List ℕ) → Failure → Type 0
FailsBytes Makes Fills c bytes old new Usage = ⊥
FailsBytes Makes Fills c bytes old new Overwriting = ⊥
FailsBytes Makes Fills c bytes old new CannotRead = ⊥
FailsBytes Makes Fills c bytes old new CannotWrite = ServesFront Makes Fills c bytes old new
FailsBytes Makes Fills c bytes old new (CannotKeep name) = (new ≡ old) × IsUnfilled c.script (CannotKeep name)
FailsBytes Makes Fills c bytes old new (Untold why) = (new ≡ old) × Untells bytes c why

-- what came of all that a reader had
abbrev pub Serves : (List ℕ → Option (List ℕ) → Type 0) → (List ℕ → Option (List ℕ) → Type 0) → Choices
    → Option (List ℕ) → Option (List ℕ) → Option (List ℕ) → Option (List ℕ) → ℕ → Type 0
Serves Makes Fills c had left old new status =
    (bytes : List ℕ) × (IsRead had left bytes × ServesBytes Makes Fills c bytes old new status)

-- why nothing was said of a file, or not all: it couldn't be read, or memory was needed, before the first byte; or this
-- came of its bytes
abbrev pub Fails : (List ℕ → Option (List ℕ) → Type 0) → (List ℕ → Option (List ℕ) → Type 0) → Choices
    → Option (List ℕ) → Option (List ℕ) → Option (List ℕ) → Option (List ℕ) → Failure → Type 0
Fails Makes Fills c had left old new f = (IsUnread f × (new ≡ old))
    ⊎ ((bytes : List ℕ) × (IsRead had left bytes × FailsBytes Makes Fills c bytes old new f))
