-- Where a certificate is kept.
--
-- *Windows in files.* The certificate is cut into windows (`IsWindow`), each in a file of its own: OUT.1 begins with the
-- certificate, each next one where the one before ends, and the last one ends with it. Of each is reported which of
-- the certificate's events it has, and how many of its own stand before them.
use Rattle.std.specs.Prelude.{ℕ, ◌≡◌, ◌+◌, ◌⊎◌, List, [], ◌∷◌, ◌++◌, length, reverse, take, codes, decimal, Option}
use Rattle.std.specs.declared.io.ErrorKind.{ErrorKind}
use Rattle.std.specs.declared.io.ErrorKind.TheVariants as kind
use Rattle.std.specs.Io.KnownBytes.{Appends}
use Rattle.histories.specs.declared.head.Head.{Head}
use Rattle.histories.specs.declared.entry.Entry.{Entry}
use Rattle.judge.specs.declared.judging.Judgement.{Judgement}
use Rattle.judge.specs.declared.judging.Judgement.TheVariants.{Legal, Illegal, Undecided}
use Rattle.windows.specs.declared.cutting.Window.{Window}
use Rattle.windows.specs.declared.stop.Stop.{Stop}
use Rattle.windows.specs.declared.stop.Stop.TheVariants as stop
use Rattle.windows.specs.Texts.{certificate_text, steps_count}
use Rattle.windows.specs.Windows.{IsWindow}
use Rattle.judge_report.specs.declared.keeping.Cut.{Cut}
use Rattle.judge_report.specs.declared.messages.Failure.{Failure}
use Rattle.judge_report.specs.declared.messages.Failure.TheVariants.{Usage, Overwriting, CannotRead, CannotWrite, CannotKeep, CannotKeepWindow, CannotRemove}
use Rattle.judge_report.specs.declared.messages.Failure.TheVariants.{TooMany, NoPlace, OutOfMemory, Ill}
use Rattle.judge_report.specs.Asked.{Kept, Nowhere, Whole, Windows}
use Rattle.judge_report.specs.Heard.{Heard}

-- a file of this name was made, and filled with this text; Makes tells what it held then, Fills what at the end
pub record IsWritten (Makes Fills : List ℕ → Option (List ℕ) → Type 0) (name text : List ℕ) : Type 0 where
  pub made : Option (List ℕ)
  pub filled : Option (List ℕ)
  pub makes : Makes name made
  pub fills : Fills name filled
  pub all : Appends made filled text

-- the file that has the window with this number: OUT.1, OUT.2 and so on
abbrev pub window_name : List ℕ → ℕ → List ℕ
window_name out n = out ++ (codes "." ++ decimal n)

-- this is what a window has of these steps
pub record IsCutOf (steps : List Entry) (w : Window) (c : Cut) : Type 0 where
  pub before : c.before ≡ steps_count (take w.from steps)
  pub last : c.last ≡ steps_count (take w.to steps)
  pub preamble : c.preamble ≡ w.preamble

-- a window of these steps, of which this is reported, is kept in the file with its number
pub record IsWindowKept (Makes Fills : List ℕ → Option (List ℕ) → Type 0) (out : List ℕ) (h : Head) (steps : List Entry)
    (w : Window) (c : Cut) : Type 0 where
  pub window : IsWindow h steps w
  pub cut : IsCutOf steps w c
  pub written : IsWritten Makes Fills (window_name out c.number) w.text.items

-- so are windows of the steps up to here, of which these are reported, the last first
abbrev pub AreKept : (List ℕ → Option (List ℕ) → Type 0) → (List ℕ → Option (List ℕ) → Type 0) → List ℕ → Head
    → List Entry → ℕ → List Cut → Type 0
AreKept Makes Fills out h steps to [] = to ≡ 0
AreKept Makes Fills out h steps to (c ∷ cs) = (w : Window) × (w.to ≡ to) × (c.number ≡ length cs + 1)
    × IsWindowKept Makes Fills out h steps w c × AreKept Makes Fills out h steps w.from cs

-- a certificate is kept where it is to be kept, in these windows if in any
abbrev pub IsKept : (List ℕ → Option (List ℕ) → Type 0) → (List ℕ → Option (List ℕ) → Type 0) → Kept → Head
    → List Entry → List Cut → Type 0
IsKept Makes Fills Nowhere h steps cuts = cuts ≡ []
IsKept Makes Fills (Whole name) h steps cuts = IsWritten Makes Fills name (certificate_text h steps) × (cuts ≡ [])
IsKept Makes Fills (Windows out) h steps cuts = AreKept Makes Fills out h steps (length steps) (reverse cuts)

-- a trace of an illegal history is kept, which ends with the illegal line, if it is to be kept whole
abbrev pub IsIllegalKept : (List ℕ → Option (List ℕ) → Type 0) → (List ℕ → Option (List ℕ) → Type 0) → Kept → Head
    → List Entry → Type 0
IsIllegalKept Makes Fills (Whole name) h steps = IsWritten Makes Fills name (certificate_text h steps)
IsIllegalKept Makes Fills Nowhere h steps = Unit {0}
IsIllegalKept Makes Fills (Windows out) h steps = Unit {0}

-- of an undecided history there is no trace: a file that is to have it is left empty, so that no older trace stays there
abbrev pub IsUndecidedKept : (List ℕ → Option (List ℕ) → Type 0) → (List ℕ → Option (List ℕ) → Type 0) → Kept → Type 0
IsUndecidedKept Makes Fills (Whole name) = IsWritten Makes Fills name []
IsUndecidedKept Makes Fills Nowhere = Unit {0}
IsUndecidedKept Makes Fills (Windows out) = Unit {0}

-- the file of the window after these isn't there
abbrev pub IsCleared : (List ℕ → Type 0) → Kept → List Cut → Type 0
IsCleared Lacks Nowhere cuts = Unit {0}
IsCleared Lacks (Whole name) cuts = Unit {0}
IsCleared Lacks (Windows out) cuts = Lacks (window_name out (length cuts + 1))

-- so it is where there is one
abbrev pub IsFilled : (List ℕ → Option (List ℕ) → Type 0) → (List ℕ → Option (List ℕ) → Type 0) → Kept → Heard
    → Judgement → List Cut → Type 0
IsFilled Makes Fills kept k (Legal steps) cuts = IsKept Makes Fills kept k.head steps.items cuts
IsFilled Makes Fills kept k (Illegal at why possible steps) cuts =
    IsIllegalKept Makes Fills kept k.head steps.items × (cuts ≡ [])
IsFilled Makes Fills kept k (Undecided at) cuts = IsUndecidedKept Makes Fills kept × (cuts ≡ [])

-- what it returns as that a certificate isn't cut
abbrev pub uncut_by : Stop → Failure
uncut_by stop.TooMany = TooMany
uncut_by stop.Memory = OutOfMemory
uncut_by stop.NoPlace = NoPlace
uncut_by stop.Refused = NoPlace

-- what it is reported as that a file couldn't be written or removed: memory where memory was refused
abbrev pub unkept_by : ErrorKind → Failure → Failure
unkept_by kind.OutOfMemory f = OutOfMemory
unkept_by _ f = f

-- it is this failure, or that memory was refused
abbrev pub OrMemory : Failure → Failure → Type 0
OrMemory g f = (f ≡ g) ⊎ (f ≡ OutOfMemory)

-- why a certificate wasn't kept
abbrev pub IsUnkept : Failure → Type 0
IsUnkept Usage = ⊥
IsUnkept Overwriting = ⊥
IsUnkept CannotRead = ⊥
IsUnkept CannotWrite = ⊥
IsUnkept CannotKeep = Unit {0}
IsUnkept (CannotKeepWindow n) = Unit {0}
IsUnkept (CannotRemove n) = Unit {0}
IsUnkept TooMany = Unit {0}
IsUnkept NoPlace = Unit {0}
IsUnkept OutOfMemory = Unit {0}
IsUnkept (Ill f) = ⊥
