-- Where the script of an outcome is kept.
use Rattle.std.specs.Prelude.{ℕ, ◌≡◌, List, Option, Some, None}
use Rattle.std.specs.Io.KnownBytes.{Appends}
use Rattle.explore_report.specs.declared.messages.Failure.{Failure}
use Rattle.explore_report.specs.declared.messages.Failure.TheVariants.{Usage, Overwriting, CannotRead, CannotWrite, CannotKeep, Untold}
use Rattle.explore_report.specs.Asked.{Kept}

-- a file of this name was made, and filled with this text; Makes tells what it held then, Fills what at the end
pub record IsWritten (Makes Fills : List ℕ → Option (List ℕ) → Type 0) (name text : List ℕ) : Type 0 where
  pub made : Option (List ℕ)
  pub filled : Option (List ℕ)
  pub makes : Makes name made
  pub fills : Fills name filled
  pub all : Appends made filled text

-- so is the script that is wanted, if there is one
abbrev pub IsFilled : (List ℕ → Option (List ℕ) → Type 0) → (List ℕ → Option (List ℕ) → Type 0) → Option Kept
    → Option (List ℕ) → Type 0
IsFilled Makes Fills None script = Unit {0}
IsFilled Makes Fills (Some k) None = Unit {0}
IsFilled Makes Fills (Some k) (Some text) = IsWritten Makes Fills k.out text

-- the file of this name couldn't be made or filled
abbrev pub IsNotKept : List ℕ → Failure → Type 0
IsNotKept name Usage = ⊥
IsNotKept name Overwriting = ⊥
IsNotKept name CannotRead = ⊥
IsNotKept name CannotWrite = ⊥
IsNotKept name (CannotKeep out) = out.now ≡ name
IsNotKept name (Untold why) = ⊥

abbrev pub IsUnfilled : Option Kept → Failure → Type 0
IsUnfilled None f = ⊥
IsUnfilled (Some k) f = IsNotKept k.out f
