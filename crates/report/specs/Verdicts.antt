-- What the program tells of a trace.
use Rattle.std.specs.Prelude.{ℕ, ◌≡◌, ◌⊎◌, List, [], ◌∷◌, Option, Ok, codes, decimal}
use Rattle.std.specs.List.{concat}
use Rattle.std.specs.Io.KnownBytes.{Appends, Consumes, IsAtEnd}
use Rattle.verdict.specs.declared.checking.Verdict.{Verdict}
use Rattle.verdict.specs.declared.checking.Verdict.TheVariants.{Legal, Illegal}
use Rattle.verdict.specs.Reading.{Trace, trace_read}
use Rattle.verdict.specs.Verdicts.{IsJudged}
use Rattle.streams.specs.Leaves.{AppendsFront}

-- `legal N points`, or `illegal at line L`
abbrev pub verdict_text : Verdict → List ℕ
verdict_text (Legal points) = concat (codes "legal " ∷ decimal points ∷ codes " points\n" ∷ [])
verdict_text (Illegal line) = concat (codes "illegal at line " ∷ decimal line ∷ codes "\n" ∷ [])

-- the program's exit status for it
abbrev pub verdict_status : Verdict → ℕ
verdict_status (Legal points) = 0
verdict_status (Illegal line) = 1

-- these bytes are a trace, and this is the verdict on it
abbrev pub IsVerdictOn : List ℕ → Verdict → Type 0
IsVerdictOn bytes v = (t : Trace) × (trace_read bytes ≡ Ok t) × IsJudged t v

-- these bytes are a legal trace, and that was written
abbrev pub FoundLegal : Option (List ℕ) → Option (List ℕ) → List ℕ → Type 0
FoundLegal old new bytes =
    (points : ℕ) × IsVerdictOn bytes (Legal points) × Appends old new (verdict_text (Legal points))

-- these bytes are a trace, and the verdict on it was written, or a beginning of it
abbrev pub JudgedFront : Option (List ℕ) → Option (List ℕ) → List ℕ → Type 0
JudgedFront old new bytes = (v : Verdict) × IsVerdictOn bytes v × AppendsFront old new (verdict_text v)

-- all that the reader had, up to its end, is a legal trace, and that was written
abbrev pub Checked : Option (List ℕ) → Option (List ℕ) → Option (List ℕ) → Option (List ℕ) → Type 0
Checked had left old new = (bytes : List ℕ) × Consumes had left bytes × IsAtEnd left × FoundLegal old new bytes

-- nothing was written; or a beginning of the verdict on all that the reader had
abbrev pub CheckedFront : Option (List ℕ) → Option (List ℕ) → Option (List ℕ) → Option (List ℕ) → Type 0
CheckedFront had left old new =
    (new ≡ old) ⊎ ((bytes : List ℕ) × Consumes had left bytes × IsAtEnd left × JudgedFront old new bytes)

-- these bytes are a trace, the verdict on it was written, and this is its status
abbrev pub Finds : Option (List ℕ) → Option (List ℕ) → List ℕ → ℕ → Type 0
Finds old new bytes status =
    (v : Verdict) × IsVerdictOn bytes v × Appends old new (verdict_text v) × (status ≡ verdict_status v)

-- the same of all that the reader had, up to its end
abbrev pub Judged : Option (List ℕ) → Option (List ℕ) → Option (List ℕ) → Option (List ℕ) → ℕ → Type 0
Judged had left old new status = (bytes : List ℕ) × Consumes had left bytes × IsAtEnd left × Finds old new bytes status
