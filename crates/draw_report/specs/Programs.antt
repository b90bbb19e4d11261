-- What the program does with the words of its command line.
--
-- *What `rfx-draw` did.* The picture of the trace or the history in the file that the words name, or why not; with the names of the
-- script that they name (`called_by`, `is_like`, `GivesScript`; `Names.antt`, `Scripts.antt`), as `parse` reads it.
use Rattle.std.specs.Prelude.{ℕ, ◌≡◌, ◌≢◌, ◌⊎◌, List, [], ◌∷◌, codes, Option, Some, None}
use Rattle.std.specs.Prelude.{Result, Ok, Err, Vec, String, map, string_bytes}
use Rattle.std.specs.declared.io.Error.{Error}
use Rattle.std.specs.declared.alloc.Global.{Global}
use Rattle.std.specs.declared.io.ErrorKind.{ErrorKind}
use Rattle.std.specs.declared.io.ErrorKind.TheVariants as kind
use Rattle.std.specs.Io.KnownBytes.{Appends}
use Rattle.streams.specs.Leaves.{AppendsFront}
use Rattle.draw_report.specs.declared.asking.Kind.{Kind}
use Rattle.draw_report.specs.declared.messages.Failure.{Failure}
use Rattle.draw_report.specs.declared.messages.Failure.TheVariants.{Usage, CannotRead, CannotWrite, OutOfMemory}
use Rattle.draw_report.specs.Asked.{AskFor, Asked, Drawing, Meaning, Nothing}
use Rattle.draw_report.specs.Legend.{legend}
use Rattle.draw_report.specs.Messages.{failure_text, failure_status}
use Rattle.draw_report.specs.Reading.{asked_of}
use Rattle.script.specs.Scope.{Scope}
use Rattle.draw_report.specs.Scripts.{FailsScript, GivesScript}
use Rattle.draw_report.specs.Files.{Fails, Serves}

-- what the words ask for: the usage, where they can't be had as text
abbrev pub asked_in : Result (Vec (String Global) Global) Error → Asked
asked_in (Ok words) = asked_of (map string_bytes words.items)
asked_in (Err e) = Nothing

-- the failure that an error of opening a file is reported as: memory where memory was refused
abbrev pub unopened_by : ErrorKind → Failure
unopened_by kind.OutOfMemory = OutOfMemory
unopened_by _ = CannotRead

-- a failure is reported, or a beginning of its message, where that can't be written
abbrev pub IsTold : List ℕ → Failure → Option (List ℕ) → Option (List ℕ) → ℕ → Type 0
IsTold file f told told' status = AppendsFront told told' (failure_text file f) × (status ≡ failure_status f)

-- how a picture of the trace in a file ended, with the names of this script, if there is one: it was written from what
-- opening the file gave, the writer has let go of it, and nothing was reported; or it wasn't, or not all of it, and
-- that is reported; or the file couldn't be opened
abbrev pub PictureEnds : (List ℕ → Result (Option (List ℕ)) ErrorKind → Type 0) → Kind → Option Scope → List ℕ
    → Option (List ℕ) → Option (List ℕ) → Type 0 → Type 0 → Option (List ℕ) → Option (List ℕ) → ℕ → Type 0
PictureEnds Opens k script file old new LetGo Quiet told told' status =
    ((had : Option (List ℕ)) × Opens file (Ok had) × (left : Option (List ℕ))
    × ((Serves k script had left old new × LetGo × Quiet × (status ≡ 0))
    ⊎ ((f : Failure) × Fails k script had left old new f × IsTold file f told told' status)))
    ⊎ ((e : ErrorKind) × Opens file (Err e) × (new ≡ old) × IsTold file (unopened_by e) told told' status)

-- how the script of this name was read: opening it gave one; or a failure, which is reported
abbrev pub ScriptOpens : (List ℕ → Result (Option (List ℕ)) ErrorKind → Type 0) → List ℕ → Scope → Type 0
ScriptOpens Opens name s =
    (had : Option (List ℕ)) × Opens name (Ok had) × (left : Option (List ℕ)) × GivesScript had left s

abbrev pub ScriptIsTold : (List ℕ → Result (Option (List ℕ)) ErrorKind → Type 0) → List ℕ → Option (List ℕ)
    → Option (List ℕ) → ℕ → Type 0
ScriptIsTold Opens name told told' status =
    ((had : Option (List ℕ)) × Opens name (Ok had) × (left : Option (List ℕ)) × (f : Failure) × FailsScript had left f
    × IsTold name f told told' status)
    ⊎ ((e : ErrorKind) × Opens name (Err e) × IsTold name (unopened_by e) told told' status)

-- how a picture with the names of a script ended: with those of the script that this file is; or nothing was written,
-- and why there is no script is reported
abbrev pub NamedEnds : (List ℕ → Result (Option (List ℕ)) ErrorKind → Type 0) → Kind → List ℕ → List ℕ → Option (List ℕ)
    → Option (List ℕ) → Type 0 → Type 0 → Option (List ℕ) → Option (List ℕ) → ℕ → Type 0
NamedEnds Opens k name file old new LetGo Quiet told told' status =
    ((s : Scope) × ScriptOpens Opens name s × PictureEnds Opens k (Some s) file old new LetGo Quiet told told' status)
    ⊎ ((new ≡ old) × ScriptIsTold Opens name told told' status)

-- how it ended to tell what the signs mean: all of that was written, the writer has let go of it, and nothing was
-- reported; or a beginning of it, and that it couldn't be written is reported
abbrev pub LegendEnds : Option (List ℕ) → Option (List ℕ) → Type 0 → Type 0 → Option (List ℕ) → Option (List ℕ) → ℕ
    → Type 0
LegendEnds old new LetGo Quiet told told' status = (Appends old new legend × LetGo × Quiet × (status ≡ 0))
    ⊎ (AppendsFront old new legend × IsTold [] CannotWrite told told' status)

-- how a command line ended that asks for this
abbrev pub AskedEnds : (List ℕ → Result (Option (List ℕ)) ErrorKind → Type 0) → Asked → Option (List ℕ)
    → Option (List ℕ) → Type 0 → Type 0 → Option (List ℕ) → Option (List ℕ) → ℕ → Type 0
AskedEnds Opens Nothing old new LetGo Quiet told told' status = (new ≡ old) × IsTold [] Usage told told' status
AskedEnds Opens Meaning old new LetGo Quiet told told' status = LegendEnds old new LetGo Quiet told told' status
AskedEnds Opens (Drawing kind (Some name) file) old new LetGo Quiet told told' status =
    NamedEnds Opens kind name file old new LetGo Quiet told told' status
AskedEnds Opens (Drawing kind None file) old new LetGo Quiet told told' status =
    PictureEnds Opens kind None file old new LetGo Quiet told told' status

-- how the program ended: as its command line asks; or memory for its words ran out, and that is reported
abbrev pub RunEnds : (List ℕ → Result (Option (List ℕ)) ErrorKind → Type 0) → Asked → Option (List ℕ) → Option (List ℕ)
    → Type 0 → Type 0 → Option (List ℕ) → Option (List ℕ) → ℕ → Type 0
RunEnds Opens a old new LetGo Quiet told told' status =
    AskedEnds Opens a old new LetGo Quiet told told' status ⊎ ((new ≡ old) × IsTold [] OutOfMemory told told' status)

-- ---- the laws

-- it ended with status 0 only after all that was asked for was written, and let go of, and nothing was reported: a picture,
-- or what the signs mean
pub record IsWhole (a : Asked) (LetGo Quiet : Type 0) : Type 0 where
  pub asked : a ≢ Nothing
  pub let_go : LetGo
  pub quiet : Quiet

pub record SuccessIsWhole (Opens : List ℕ → Result (Option (List ℕ)) ErrorKind → Type 0) (LetGo Quiet : Type 0) : Type 0 where
  pub whole : (a : Asked) (old new told told' : Option (List ℕ)) (status : ℕ)
      → RunEnds Opens a old new LetGo Quiet told told' status → status ≡ 0 → IsWhole a LetGo Quiet

-- nothing was written, and the usage is reported, with status 2; or memory for the words was refused, and that is
abbrev pub IsRefused : Option (List ℕ) → Option (List ℕ) → Option (List ℕ) → Option (List ℕ) → ℕ → Type 0
IsRefused old new told told' status = (new ≡ old)
    × (((status ≡ 2)
    × AppendsFront told told'
    (codes "usage: rfx-draw [--svg | --html] [--script SCRIPT] [FILE] (in any order) | --legend\n"))
    ⊎ ((status ≡ 1) × AppendsFront told told' (codes "rfx-draw: out of memory\n")))

-- so is a command line whose words after the first ask for nothing: they aren't those of a picture's parts, in whatever
-- order, nor `--legend` alone
pub record OtherWordsAreRefused (Opens : List ℕ → Result (Option (List ℕ)) ErrorKind → Type 0) (LetGo Quiet : Type 0)
    : Type 0 where
  pub refused : (program : List ℕ) (words : List (List ℕ)) (old new told told' : Option (List ℕ)) (status : ℕ)
      → ((a : Asked) → AskFor words a → ⊥) → RunEnds Opens (asked_of (program ∷ words)) old new LetGo Quiet told told' status
      → IsRefused old new told told' status
