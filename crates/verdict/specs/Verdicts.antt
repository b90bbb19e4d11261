-- When a trace is legal, and which line is the first that isn't.
--
-- *The verdict.* Legal where each line fits and the last number isn't below the last event's; else the first line that
-- doesn't fit.
use Rattle.std.specs.Prelude.{ℕ, ◌≡◌, ◌+◌, ◌<◌, ◌≤◌, ◌⊎◌, List, [], ◌∷◌, ◌++◌}
use Rattle.std.specs.Prelude.{length, Result, Ok, Err, IfErr, if◌then◌else◌}
use Rattle.facts.specs.declared.fact.Line.{Line}
use Rattle.verdict.specs.declared.checking.Verdict.{Verdict}
use Rattle.verdict.specs.declared.checking.Verdict.TheVariants.{Legal, Illegal}
use Rattle.verdict.specs.declared.checking.Finding.{Finding}
use Rattle.verdict.specs.declared.checking.Finding.TheVariants as finding
use Rattle.verdict.specs.declared.misfit.Misfit.TheVariants.{EndFalls}
use Rattle.verdict.specs.declared.misfit.TraceMisfit.{TraceMisfit}
use Rattle.verdict.specs.declared.fault.Fault.TheVariants.{OutOfMemory}
use Rattle.verdict.specs.declared.fault.TraceFault.{TraceFault}
use Rattle.verdict.specs.Reading.{Trace, fault_at}
use Rattle.facts.specs.Facts.{is_point}
use Rattle.verdict.specs.Earlier.{latest}
use Rattle.verdict.specs.Fits.{Fits}
use Rattle.verdict.specs.Explained.{Explains}
use Rattle.verdict.specs.Misfits.{IsMisfit}

-- each line fits those before it; n is the number of mutexes
abbrev pub AllFit : ℕ → List Line → Type 0
AllFit n [] = Unit {0}
AllFit n (e ∷ es) = Fits n es e × AllFit n es

-- how many of the lines tell of a point
abbrev pub point_lines : List Line → ℕ
point_lines [] = 0
point_lines (e ∷ es) = if is_point e.fact then 1 + point_lines es else point_lines es

-- every line fits, and the number on the last line isn't below the last event's; so the trace explains itself
pub record IsLegal (t : Trace) : Type 0 where
  pub fits : AllFit t.head.mutexes t.told
  pub ends : latest t.told ≤ t.last
  pub explained : Explains t.head.mutexes t.told

-- of these lines, which stand newest first, this is the first that doesn't fit those before it; line 2 is the first
-- after the head
pub record IsFirstMisfit (n : ℕ) (told : List Line) (line : ℕ) : Type 0 where
  pub newer : List Line
  pub misfit : Line
  pub earlier : List Line
  pub all : told ≡ newer ++ misfit ∷ earlier
  pub fit : AllFit n earlier
  pub fails : Fits n earlier misfit → ⊥
  pub here : line ≡ length earlier + 2

-- all fit, and the number on the last line, which is this line, is below the last event's
pub record IsShort (t : Trace) (line : ℕ) : Type 0 where
  pub fit : AllFit t.head.mutexes t.told
  pub below : t.last < latest t.told
  pub here : line ≡ length t.told + 2

abbrev pub IsJudged : Trace → Verdict → Type 0
IsJudged t (Legal points) = IsLegal t × (points ≡ point_lines t.told)
IsJudged t (Illegal line) = IsFirstMisfit t.head.mutexes t.told line ⊎ IsShort t line

-- what is answered where the bytes say this: the verdict on the trace that they are; their first fault; or lack of
-- memory at line 1, where that line has no fault
abbrev pub Answers : Result Trace TraceFault → Result Verdict TraceFault → Type 0
Answers said (Ok v) = (t : Trace) × (said ≡ Ok t) × IsJudged t v
Answers said (Err e) = (said ≡ Err e) ⊎ ((e ≡ fault_at 1 OutOfMemory) × IfErr said (λ first. 1 < first.line))

-- ---- why

-- of these lines this is the first that doesn't fit those before it, for this reason
pub record IsReason (n : ℕ) (told : List Line) (why : TraceMisfit) : Type 0 where
  pub first : IsFirstMisfit n told why.line
  pub reason : IsMisfit why.misfit n first.earlier first.misfit

-- all fit, and the number on the last line is below the last event's, which is recorded
pub record IsShortOf (t : Trace) (why : TraceMisfit) : Type 0 where
  pub short : IsShort t why.line
  pub event : why.misfit ≡ EndFalls (latest t.told)

abbrev pub IsFound : Trace → Finding → Type 0
IsFound t (finding.Legal points) = IsLegal t × (points ≡ point_lines t.told)
IsFound t (finding.Illegal why) = IsReason t.head.mutexes t.told why ⊎ IsShortOf t why

-- what is answered where the bytes say this, as `Answers` has it, with the reason where a line doesn't fit
abbrev pub Tells : Result Trace TraceFault → Result Finding TraceFault → Type 0
Tells said (Ok f) = (t : Trace) × (said ≡ Ok t) × IsFound t f
Tells said (Err e) = (said ≡ Err e) ⊎ ((e ≡ fault_at 1 OutOfMemory) × IfErr said (λ first. 1 < first.line))

-- the verdict without the reason
abbrev pub verdict_of : Finding → Verdict
verdict_of (finding.Legal points) = Legal points
verdict_of (finding.Illegal why) = Illegal why.line
