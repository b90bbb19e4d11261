-- How a pass over the lines goes on.
use Rattle.std.specs.Prelude.{ℕ, ◌≡◌, ◌+◌, ◌⊎◌, Bool, Option, Some, None}
use Rattle.std.specs.Prelude.{MatchOption, Result, Ok, Err, IsOk, if◌then◌else◌}
use Rattle.facts.specs.declared.fact.Line.{Line}
use Rattle.verdict.specs.declared.checking.Pass.{Pass}
use Rattle.verdict.specs.declared.checking.Finding.{Finding}
use Rattle.verdict.specs.declared.checking.Finding.TheVariants.{Legal, Illegal}
use Rattle.verdict.specs.declared.misfit.Misfit.{Misfit}
use Rattle.verdict.specs.declared.misfit.Misfit.TheVariants.{EndFalls}
use Rattle.verdict.specs.declared.misfit.TraceMisfit.{TraceMisfit}
use Rattle.verdict.specs.declared.fault.Fault.{Fault}
use Rattle.verdict.specs.declared.fault.Fault.TheVariants.{OutOfMemory}
use Rattle.verdict.specs.declared.fault.TraceFault.{TraceFault}
use Rattle.verdict.specs.declared.head.Head.{Head}
use Rattle.facts.specs.Facts.{is_point}
use Rattle.verdict.specs.Judges.{Accepts, Rejects, Moves, IsNew}
use Rattle.verdict.specs.Reading.{Trace, IsHead}
use Rattle.verdict.specs.Verdicts.{IsFound}

-- a misfit of line n
abbrev pub misfit_at : ℕ → Misfit → TraceMisfit
misfit_at n m = record { line = n; misfit = m }

-- the entry at line n is kept and counted, or it is the first that isn't accepted
abbrev pub Decides : Pass → ℕ → Line → Pass → Type 0
Decides p n e q =
    (Accepts p.judge e × Moves p.judge e q.judge × (q.illegal ≡ None)
    × (q.points ≡ (if is_point e.fact then 1 + p.points else p.points)))
    ⊎ ((m : Misfit) × Rejects m p.judge e × (q.illegal ≡ Some (misfit_at n m)))

-- after such an entry nothing is judged
abbrev pub Takes : Pass → ℕ → Line → Pass → Type 0
Takes p n e q = MatchOption p.illegal (Decides p n e q) (λ why. q.illegal ≡ Some why)

-- what a pass has found at its last line, which is line n; `short` is that the number there is below the last event's
abbrev pub found_at : Option TraceMisfit → ℕ → ℕ → ℕ → Bool → Finding
found_at (Some why) points n event short = Illegal why
found_at None points n event short = if short then Illegal (misfit_at n (EndFalls event)) else Legal points

-- before the first line after the head
pub record IsFresh (p : Pass) : Type 0 where
  pub head : IsHead p.judge.head
  pub judge : IsNew p.judge.head p.judge
  pub points : p.points ≡ 0
  pub illegal : p.illegal ≡ None

-- a pass over the lines after the head answers what they say
abbrev pub AnswersLines : Result Trace TraceFault → Result Finding TraceFault → Type 0
AnswersLines said (Ok f) = (t : Trace) × (said ≡ Ok t) × IsFound t f
AnswersLines said (Err e) = said ≡ Err e

-- a pass that begins after this head line, its fault, or lack of memory where it has none
abbrev pub MakesPass : Result Head Fault → Result Pass Fault → Type 0
MakesPass said (Ok p) = (said ≡ Ok p.judge.head) × IsFresh p
MakesPass said (Err f) = (said ≡ Err f) ⊎ ((f ≡ OutOfMemory) × IsOk said)
