-- What the program did with the bytes of its reader.
use Rattle.std.specs.Prelude.{ℕ, ◌≡◌, ◌⊎◌, Bool, true, false, List, [], Option, Ok, Err, IfSome}
use Rattle.std.specs.Io.KnownBytes.{Appends}
use Rattle.streams.specs.Leaves.{AppendsFront}
use Rattle.judge.specs.declared.judging.Judgement.{Judgement}
use Rattle.judge_report.specs.declared.messages.Failure.{Failure}
use Rattle.judge_report.specs.declared.messages.Failure.TheVariants.{Usage, Overwriting, CannotRead, CannotWrite, CannotKeep, CannotKeepWindow, CannotRemove}
use Rattle.judge_report.specs.declared.messages.Failure.TheVariants.{TooMany, NoPlace, OutOfMemory, Ill}
use Rattle.judge_report.specs.declared.reading.ReadFault.{ReadFault}
use Rattle.judge_report.specs.declared.reading.ReadFault.TheVariants as read
use Rattle.judge_report.specs.declared.keeping.Cut.{Cut}
use Rattle.judge_report.specs.Asked.{Kept}
use Rattle.judge_report.specs.Heard.{Heard, history_read}
use Rattle.judge_report.specs.Kept.{IsFilled}
use Rattle.judge_report.specs.Said.{IsSaid, status_of}

-- the bytes that a reader had, where they are known, are this history
abbrev pub IsRead : Option (List ℕ) → Heard → Type 0
IsRead had k = IfSome had (λ bytes. history_read bytes ≡ Ok k)

-- a history was read and judged, its certificate was kept, if it was to be, and that was reported
pub record Serves (Makes Fills : List ℕ → Option (List ℕ) → Type 0) (waiting : Bool) (kept : Kept)
    (had old new : Option (List ℕ)) (status : ℕ) : Type 0 where
  pub heard : Heard
  pub read : IsRead had heard
  pub judgement : Judgement
  pub cuts : List Cut
  pub filled : IsFilled Makes Fills kept heard judgement cuts
  pub text : List ℕ
  pub said : IsSaid waiting heard judgement cuts text
  pub written : Appends old new text
  pub exit : status ≡ status_of judgement

-- the same, but only a beginning was reported
pub record ServesFront (Makes Fills : List ℕ → Option (List ℕ) → Type 0) (waiting : Bool) (kept : Kept)
    (had old new : Option (List ℕ)) : Type 0 where
  pub heard : Heard
  pub read : IsRead had heard
  pub judgement : Judgement
  pub cuts : List Cut
  pub filled : IsFilled Makes Fills kept heard judgement cuts
  pub text : List ℕ
  pub said : IsSaid waiting heard judgement cuts text
  pub written : AppendsFront old new text

-- the failure that a fault of reading is reported as
abbrev pub failed_by : ReadFault → Failure
failed_by read.Failed = CannotRead
failed_by read.Memory = OutOfMemory
failed_by (read.Ill at) = Ill at

-- why there is no history: it couldn't be read, or memory was needed, or the bytes have this fault
abbrev pub Unread : Option (List ℕ) → Failure → Type 0
Unread had Usage = ⊥
Unread had Overwriting = ⊥
Unread had CannotRead = Unit {0}
Unread had CannotWrite = ⊥
Unread had CannotKeep = ⊥
Unread had (CannotKeepWindow n) = ⊥
Unread had (CannotRemove n) = ⊥
Unread had TooMany = ⊥
Unread had NoPlace = ⊥
Unread had OutOfMemory = Unit {0}
Unread had (Ill f) = IfSome had (λ bytes. history_read bytes ≡ Err f)

-- ---- where the certificate wasn't kept

-- what a history was found to be is written, with no window; or a beginning of that
abbrev pub Says : Bool → Heard → Judgement → Option (List ℕ) → Option (List ℕ) → Type 0
Says waiting k j old new = (text : List ℕ) × IsSaid waiting k j [] text × Appends old new text

abbrev pub SaysFront : Bool → Heard → Judgement → Option (List ℕ) → Option (List ℕ) → Type 0
SaysFront waiting k j old new = (text : List ℕ) × IsSaid waiting k j [] text × AppendsFront old new text

-- that is written, the writer has let go of it, and then this failure is returned; or that it couldn't be written
abbrev pub SaysThen : Bool → Heard → Judgement → Option (List ℕ) → Option (List ℕ) → Type 0 → Failure → Failure → Type 0
SaysThen waiting k j old new LetGo f r =
    ((r ≡ f) × Says waiting k j old new × LetGo) ⊎ ((r ≡ CannotWrite) × SaysFront waiting k j old new)

-- if memory was refused, nothing is written
abbrev pub is_memory : Failure → Bool
is_memory OutOfMemory = true
is_memory f = false

-- a history was read and judged, and what it was found to be was written; or a beginning of that
pub record SaysOf (waiting : Bool) (had old new : Option (List ℕ)) : Type 0 where
  pub heard : Heard
  pub read : IsRead had heard
  pub judgement : Judgement
  pub says : Says waiting heard judgement old new

pub record SaysFrontOf (waiting : Bool) (had old new : Option (List ℕ)) : Type 0 where
  pub heard : Heard
  pub read : IsRead had heard
  pub judgement : Judgement
  pub says : SaysFront waiting heard judgement old new

-- ---- failures

-- why nothing was reported of a history, or not all: it couldn't be read, or memory was needed, or the bytes have this
-- fault, before anything was reported; or a write failed, after a beginning. Where the certificate couldn't be written or
-- cut, what the history was found to be was written, and the writer has let go of it
abbrev pub Fails : (List ℕ → Option (List ℕ) → Type 0) → (List ℕ → Option (List ℕ) → Type 0) → Bool → Kept
    → Option (List ℕ) → Option (List ℕ) → Option (List ℕ) → Type 0 → Failure → Type 0
Fails Makes Fills waiting kept had old new LetGo Usage = ⊥
Fails Makes Fills waiting kept had old new LetGo Overwriting = ⊥
Fails Makes Fills waiting kept had old new LetGo CannotRead = new ≡ old
Fails Makes Fills waiting kept had old new LetGo CannotWrite =
    ServesFront Makes Fills waiting kept had old new ⊎ SaysFrontOf waiting had old new
Fails Makes Fills waiting kept had old new LetGo CannotKeep = SaysOf waiting had old new × LetGo
Fails Makes Fills waiting kept had old new LetGo (CannotKeepWindow n) = SaysOf waiting had old new × LetGo
Fails Makes Fills waiting kept had old new LetGo (CannotRemove n) = SaysOf waiting had old new × LetGo
Fails Makes Fills waiting kept had old new LetGo TooMany = SaysOf waiting had old new × LetGo
Fails Makes Fills waiting kept had old new LetGo NoPlace = SaysOf waiting had old new × LetGo
Fails Makes Fills waiting kept had old new LetGo OutOfMemory = new ≡ old
Fails Makes Fills waiting kept had old new LetGo (Ill f) = (new ≡ old) × IfSome had (λ bytes. history_read bytes ≡ Err f)
