-- What was written of a trace that was judged.
use Rattle.std.proofs.Common.{◌≡◌, ◌≤◌, ℕ, Bool, true, false, List, length, Option, Ok, Err, refl, sym, ◌∙◌, arith}
use Rattle.std.specs.Prelude.{nat_lt}
use Rattle.std.specs.Io.KnownBytes.{Appends}
use Rattle.std.proofs.lemmas.Bool.Decides.{nat_tests}
use Rattle.verdict.specs.declared.checking.Verdict.{Verdict}
use Rattle.verdict.specs.declared.checking.Verdict.TheVariants.{Legal, Illegal}
use Rattle.verdict.specs.declared.fault.Fault.TheVariants.{TooLong}
use Rattle.verdict.specs.Limits.{max_bytes}
use Rattle.verdict.specs.Reading.{Trace, fault_at, trace_read}
use Rattle.report.specs.Verdicts.{verdict_text, verdict_status, IsVerdictOn, FoundLegal}

-- the verdict whose status is 0 is that the trace is legal
pub found : (old new : Option (List ℕ)) (bytes : List ℕ) (v : Verdict) → IsVerdictOn bytes v → Appends old new (verdict_text v) → verdict_status v ≡ 0 → FoundLegal old new bytes
found old new bytes (Legal points) on a is = (points, on, a)
found old new bytes (Illegal line) on a is = absurd cc

-- a trace isn't too long
pub read_is_short : (bytes : List ℕ) (t : Trace) → trace_read bytes ≡ Ok t → length bytes ≤ max_bytes
read_is_short bytes t is = go (nat_lt max_bytes (length bytes)) refl
  where
    go : (b : Bool) → nat_lt max_bytes (length bytes) ≡ b → length bytes ≤ max_bytes
    go true long =
        let fault : trace_read bytes ≡ Err (fault_at 1 TooLong) = rw long refl in
        let both : Ok t ≡ Err (fault_at 1 TooLong) = sym is ∙ fault in absurd cc
    go false short = grind (arith, nat_tests)
