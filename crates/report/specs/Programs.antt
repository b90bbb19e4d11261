-- What the program does with the words of its command line.
use Rattle.std.specs.Prelude.{ℕ, ◌≡◌, ◌≢◌, ◌⊎◌, List, [], Option, Result, Ok, Err, Vec, String, map, string_bytes}
use Rattle.std.specs.declared.io.Error.{Error}
use Rattle.std.specs.declared.alloc.Global.{Global}
use Rattle.std.specs.declared.io.ErrorKind.{ErrorKind}
use Rattle.std.specs.declared.io.ErrorKind.TheVariants as kind
use Rattle.cmdline.specs.declared.form.Form.{Form}
use Rattle.cmdline.specs.Forms.{Asked, run, table, threads, check, usage, asked_of, asked_by}
use Rattle.streams.specs.Leaves.{AppendsFront}
use Rattle.report.specs.declared.messages.Failure.{Failure}
use Rattle.report.specs.declared.messages.Failure.TheVariants.{CannotRead, OutOfMemory}
use Rattle.report.specs.Messages.{failure_text, failure_status}
use Rattle.report.specs.Failed.{Ends}

-- what the words ask for: the usage, where they can't be had as text
abbrev pub asked_in : Result (Vec (String Global) Global) Error → Asked
asked_in (Ok words) = asked_of (map string_bytes words.items)
asked_in (Err e) = usage

-- the file that is asked for
abbrev pub file_asked : Asked → List ℕ
file_asked (run file) = file
file_asked (table file) = file
file_asked (threads file) = file
file_asked (check file) = file
file_asked usage = []

-- the failure that an error of opening a file is reported as: memory where memory was refused
abbrev pub unopened_by : ErrorKind → Failure
unopened_by kind.OutOfMemory = OutOfMemory
unopened_by _ = CannotRead

-- a file is asked for, and opening it gave an error that is reported as this
abbrev pub IsUnopened : (List ℕ → Result (Option (List ℕ)) ErrorKind → Type 0) → Asked → Failure → Type 0
IsUnopened Opens a g = (a ≢ usage) × (k : ErrorKind) × Opens (file_asked a) (Err k) × (g ≡ unopened_by k)

-- how a form ended: one that asks for the same was served, from what opening its file gave; or the file couldn't be
-- opened, nothing was written, and that is reported, or a beginning of it
abbrev pub NamedEnds : (List ℕ → Result (Option (List ℕ)) ErrorKind → Type 0) → Asked → Option (List ℕ)
    → Option (List ℕ) → Type 0 → Type 0 → Option (List ℕ) → Option (List ℕ) → ℕ → Type 0
NamedEnds Opens a old new LetGo Quiet told told' status =
    ((f : Form) × (asked_by f ≡ a) × (had : Option (List ℕ)) × (a ≢ usage → Opens (file_asked a) (Ok had))
    × (left : Option (List ℕ)) × Ends f had left old new LetGo Quiet told told' status)
    ⊎
    ((g : Failure) × IsUnopened Opens a g × (new ≡ old) × AppendsFront told told' (failure_text (file_asked a) g)
    × (status ≡ failure_status g))

-- memory for the words of the command line was wanted, which names no file: nothing was written, and that is
-- reported, or a beginning of it. That memory was refused for them no contract of the library says: an error when
-- memory runs out is one that anybody can make
abbrev pub IsUnserved : Option (List ℕ) → Option (List ℕ) → Option (List ℕ) → Option (List ℕ) → ℕ → Type 0
IsUnserved old new told told' status =
    (new ≡ old) × AppendsFront told told' (failure_text [] OutOfMemory) × (status ≡ failure_status OutOfMemory)

-- how the program ended
abbrev pub RunEnds : (List ℕ → Result (Option (List ℕ)) ErrorKind → Type 0) → Asked → Option (List ℕ) → Option (List ℕ)
    → Type 0 → Type 0 → Option (List ℕ) → Option (List ℕ) → ℕ → Type 0
RunEnds Opens a old new LetGo Quiet told told' status =
    NamedEnds Opens a old new LetGo Quiet told told' status ⊎ IsUnserved old new told told' status
