-- What a call gave of what the definitions say: the same, unless memory ran out.
--
-- *What memory allows.* Reading gives the same as the definition, or wants memory at a line that says something and up
-- to which the definition finds no fault. A line's fault is reported at that line (`GivesAt`), and a command's at
-- its own (`AddsAt`). Playing wants memory only at a command that runs one of the 100,000 events that may run
-- (`RefusesCommand`); where the machine to play on can't be had, the program tells that at line 1 (`WantsAtFirst`).
use Rattle.std.specs.Prelude.{ℕ, ◌≡◌, ◌+◌, ◌<◌, false, List, ◌∷◌, ◌++◌, length, Result, Ok, Err, IsOk, IfErr}
use Rattle.script.specs.Forms.{is_silent}
use Rattle.lines.specs.Lines.{lines_of}
use Rattle.script.specs.declared.fault.Fault.{Fault}
use Rattle.script.specs.declared.fault.Fault.TheVariants.{OutOfMemory}
use Rattle.script.specs.declared.fault.ScriptFault.{ScriptFault}

-- a fault is the one that the definition names; lack of memory comes only where it names none
abbrev pub Tells : {A : Type 0} → Fault → Result A Fault → Type 0
Tells OutOfMemory said = IsOk said
Tells f said = said ≡ Err f

-- the same for a fault at a line; lack of memory comes only where no line up to there has a fault
abbrev pub TellsAt : {A : Type 0} → ScriptFault → Fault → Result A ScriptFault → Type 0
TellsAt e OutOfMemory said = IfErr said (λ first. e.line < first.line)
TellsAt e _ said = said ≡ Err e

-- a call gave what the definition says, memory aside; view is how the definition sees a value
abbrev pub Gives : {X A : Type 0} → (X → A) → Result X Fault → Result A Fault → Type 0
Gives view (Ok x) said = said ≡ Ok (view x)
Gives view (Err f) said = Tells f said

-- the same for line n, at which a fault is reported, and no other
abbrev pub GivesAt : {X A : Type 0} → ℕ → (X → A) → Result X ScriptFault → Result A Fault → Type 0
GivesAt n view (Ok x) said = said ≡ Ok (view x)
GivesAt n view (Err e) said = (e.line ≡ n) × Tells e.fault said

-- the same for a whole script
abbrev pub Reads : {A : Type 0} → Result A ScriptFault → Result A ScriptFault → Type 0
Reads (Ok x) said = said ≡ Ok x
Reads (Err e) said = TellsAt e e.fault said

-- these bytes have a line n, and it says something: it is no empty line and no comment
pub record SpeaksAt (bytes : List ℕ) (n : ℕ) : Type 0 where
  pub before : List (List ℕ)
  pub text : List ℕ
  pub after : List (List ℕ)
  pub stands : lines_of bytes ≡ before ++ text ∷ after
  pub here : n ≡ length before + 1
  pub says : is_silent text ≡ false
