-- Reading a trace's lines one by one, and keeping them.
use Rattle.std.proofs.Common.{◌≡◌, ℕ, ◌+◌, ◌≤◌, List, [], ◌∷◌, ◌++◌, length, reverse, Result, Ok, Err, IfErr, IfOk, sym, ap, subst, ◌∙◌, arith}
use Rattle.std.proofs.lemmas.List.{reverse-append}
use Rattle.lines.specs.Lines.{lines_of}
use Rattle.lines.specs.Faults.{◌>>=◌}
use Rattle.facts.specs.declared.fact.Line.{Line}
use Rattle.verdict.specs.declared.head.Head.{Head}
use Rattle.verdict.specs.declared.fault.Fault.{Fault}
use Rattle.verdict.specs.declared.fault.TraceFault.{TraceFault}
use Rattle.verdict.specs.declared.reading.Read.TheVariants.{Told as told_line}
use Rattle.verdict.specs.declared.told.Told.{Told}
use Rattle.verdict.specs.Reading.{Trace, fault_at, head_read, line_read, lines_read, met_at, text_read}
use Rattle.verdict.specs.Told.{Gives, IsTelling}
use Rattle.verdict.proofs.Lines.{all_from, faults_from, goes_told}
use Rattle.verdict.proofs.Whole.{whole}

-- one line more, after the others
pub keeps : (n : ℕ) (h : Head) (kept more : List Line) (e : Line) (text rest after : List ℕ) (total : Result Trace TraceFault) → lines_of rest ≡ text ∷ lines_of after → line_read h text ≡ Ok (told_line e) → more ≡ kept ++ e ∷ [] → lines_read n h (reverse kept) (lines_of rest) ≡ total → lines_read (n + 1) h (reverse more) (lines_of after) ≡ total
keeps n h kept more e text rest after total parts read is so_far =
    let turned : reverse more ≡ e ∷ reverse kept = ap reverse is ∙ reverse-append kept (e ∷ []) in
    ap (λ (ls : List Line). lines_read (n + 1) h ls (lines_of after)) turned ∙ goes_told n h (reverse kept) e text rest after total parts read so_far

-- memory is needed for what a line tells, after as many others as its number says: the lines after it tell of no
-- fault before it
pub wants : (n : ℕ) (h : Head) (told : List Line) (e : Line) (text rest after : List ℕ) (total : Result Trace TraceFault) → n ≡ length told + 2 → lines_of rest ≡ text ∷ lines_of after → line_read h text ≡ Ok (told_line e) → lines_read n h told (lines_of rest) ≡ total → IsTelling n total
wants n h told e text rest after total count parts read so_far =
    subst (IsTelling n) (goes_told n h told e text rest after total parts read so_far)
    (go (lines_read (n + 1) h (e ∷ told) (lines_of after)) (faults_from (n + 1) h (e ∷ told) (lines_of after)) (all_from (n + 1) h (e ∷ told) (lines_of after)))
  where
    go : (r : Result Trace TraceFault) → IfErr r (λ f. n + 1 ≤ f.line) → IfOk r (λ t. length (e ∷ told) ≤ length t.told) → IsTelling n r
    go (Ok t) before all = (omega (arith, count), omega (arith, count, all))
    go (Err f) before all = (omega (arith, count), omega (arith, before))

-- what the lines after the head give, all lines give
pub gives : (text first rest : List ℕ) (h : Head) (r : Result Told TraceFault) → lines_of text ≡ first ∷ lines_of rest → head_read first ≡ Ok h → Gives (lines_read 2 h [] (lines_of rest)) r → Gives (text_read (lines_of text)) r
gives text first rest h r parts head g = subst (λ said. Gives said r) (sym same) g
  where
    same : text_read (lines_of text) ≡ lines_read 2 h [] (lines_of rest)
    same = whole text first rest parts ∙ ap (λ x. met_at 1 x >>= λ k. lines_read 2 k [] (lines_of rest)) head

-- a head with a fault
pub refuses : (text first rest : List ℕ) (f : Fault) → lines_of text ≡ first ∷ lines_of rest → head_read first ≡ Err f → text_read (lines_of text) ≡ Err (fault_at 1 f)
refuses text first rest f parts head = whole text first rest parts ∙ ap (λ x. met_at 1 x >>= λ h. lines_read 2 h [] (lines_of rest)) head
