-- A text from its first line on.
use Rattle.std.proofs.Common.{◌≡◌, inl, inr, ℕ, ◌<◌, ◌≤◌, ◌==◌, List, [], ◌∷◌, length, Result, Ok, Err, IfErr, refl, sym, ap, subst, ◌∙◌, arith}
use Rattle.std.specs.Result.{IsOk}
use Rattle.lines.specs.Lines.{lines_of}
use Rattle.lines.specs.Faults.{◌>>=◌}
use Rattle.lines.proofs.Cutting.{one_or_more}
use Rattle.verdict.specs.declared.head.Head.{Head}
use Rattle.verdict.specs.declared.fault.Fault.{Fault}
use Rattle.verdict.specs.declared.fault.TraceFault.{TraceFault}
use Rattle.verdict.specs.declared.checking.Pass.{Pass}
use Rattle.verdict.specs.declared.checking.Finding.{Finding}
use Rattle.verdict.specs.declared.checking.Finding.TheVariants.{Legal, Illegal}
use Rattle.verdict.specs.Reading.{Trace, met_at, fault_at, head_read, lines_read, text_read}
use Rattle.verdict.specs.Verdicts.{Answers, IsFound, IsJudged, Tells, verdict_of}
use Rattle.verdict.specs.Passes.{AnswersLines, MakesPass}
use Rattle.verdict.proofs.Lines.{faults_from}

unrolled : (text : List ℕ) (ls : List (List ℕ)) → 1 ≤ length ls → text_read (text ∷ ls) ≡ (met_at 1 (head_read text) >>= λ h. lines_read 2 h [] ls)
unrolled text [] long = absurd (omega (arith, long))
unrolled text (l ∷ ls) long = refl

pub whole : (text first rest : List ℕ) → lines_of text ≡ first ∷ lines_of rest → text_read (lines_of text) ≡ (met_at 1 (head_read first) >>= λ h. lines_read 2 h [] (lines_of rest))
whole text first rest parts = ap text_read parts ∙ unrolled first (lines_of rest) (one_or_more (λ b. b == 10) rest)

lift : (said : Result Trace TraceFault) (r : Result Finding TraceFault) → AnswersLines said r → Tells said r
lift said (Ok v) a = a
lift said (Err e) a = inl a

pub answered : (text first rest : List ℕ) (p : Pass) (r : Result Finding TraceFault) → lines_of text ≡ first ∷ lines_of rest → head_read first ≡ Ok p.judge.head → AnswersLines (lines_read 2 p.judge.head [] (lines_of rest)) r → Tells (text_read (lines_of text)) r
answered text first rest p r parts head a =
    let same : text_read (lines_of text) ≡ lines_read 2 p.judge.head [] (lines_of rest) = whole text first rest parts ∙ ap (λ x. met_at 1 x >>= λ h. lines_read 2 h [] (lines_of rest)) head in
    subst (λ said. Tells said r) (sym same) (lift (lines_read 2 p.judge.head [] (lines_of rest)) r a)

later : (r : Result Trace TraceFault) → IfErr r (λ e. 2 ≤ e.line) → IfErr r (λ e. 1 < e.line)
later (Ok t) h = tt
later (Err e) h = omega (arith, h)

pub refused : (text first rest : List ℕ) (f : Fault) → lines_of text ≡ first ∷ lines_of rest → MakesPass (head_read first) (Err f) → Tells (text_read (lines_of text)) (Err (fault_at 1 f))
refused text first rest f parts (inl e) = inl (whole text first rest parts ∙ ap (λ x. met_at 1 x >>= λ h. lines_read 2 h [] (lines_of rest)) e)
refused text first rest f parts (inr e) = inr (ap (fault_at 1) e.0, subst (λ said. IfErr said (λ x. 1 < x.line)) (sym (whole text first rest parts)) (go (head_read first) e.1))
  where
    go : (r : Result Head Fault) → IsOk r → IfErr (met_at 1 r >>= λ h. lines_read 2 h [] (lines_of rest)) (λ x. 1 < x.line)
    go (Ok h) ok = later (lines_read 2 h [] (lines_of rest)) (faults_from 2 h [] (lines_of rest))
    go (Err g) ok = absurd cc

-- ---- without the reason

found_judged : (t : Trace) (f : Finding) → IsFound t f → IsJudged t (verdict_of f)
found_judged t (Legal points) h = h
found_judged t (Illegal why) (inl h) = inl h.first
found_judged t (Illegal why) (inr h) = inr h.short

pub checked : (said : Result Trace TraceFault) (f : Finding) → Tells said (Ok f) → Answers said (Ok (verdict_of f))
checked said f h = (h.0, h.1, found_judged h.0 f h.2)
