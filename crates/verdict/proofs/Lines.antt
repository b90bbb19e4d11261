-- Reading line after line, as a loop does.
use Rattle.std.proofs.Common.{◌≡◌, ℕ, ◌+◌, ◌<◌, ◌≤◌, ◌==◌, Bool, true, false, List, [], ◌∷◌, length, Result, Ok, Err, IfErr, IfOk, refl, sym, ap, subst, ◌∙◌, arith, cond}
use Rattle.std.specs.List.{slice_split, onto_first}
use Rattle.std.proofs.lemmas.Bool.Decides.{nat_tests}
use Rattle.lines.specs.Lines.{lines_of}
use Rattle.lines.specs.Faults.{◌>>=◌}
use Rattle.lines.proofs.Cutting.{one_or_more}
use Rattle.verdict.specs.declared.head.Head.{Head}
use Rattle.facts.specs.declared.fact.Line.{Line}
use Rattle.verdict.specs.declared.reading.Read.{Read}
use Rattle.verdict.specs.declared.reading.Read.TheVariants.{Told, End}
use Rattle.verdict.specs.declared.fault.Fault.{Fault}
use Rattle.verdict.specs.declared.fault.Fault.TheVariants.{Cut}
use Rattle.verdict.specs.declared.fault.TraceFault.{TraceFault}
use Rattle.verdict.specs.Reading.{Trace, met_at, fault_at, line_read, lines_read, goes_on, ended, unended}

split : List ℕ → List (List ℕ)
split bs = slice_split (λ b. b == 10) bs

unrolled : (n : ℕ) (h : Head) (told : List Line) (text : List ℕ) (ls : List (List ℕ)) → 1 ≤ length ls → lines_read n h told (text ∷ ls) ≡ (met_at n (line_read h text) >>= goes_on (n + 1) h told ls (λ e. lines_read (n + 1) h (e ∷ told) ls))
unfolding lines_read
unrolled n h told text [] long = absurd (omega (arith, long))
unrolled n h told text (l ∷ ls) long = refl

-- a line is read after which others stand
at_line : (n : ℕ) (h : Head) (told : List Line) (text rest after : List ℕ) (total : Result Trace TraceFault) → lines_of rest ≡ text ∷ lines_of after → lines_read n h told (lines_of rest) ≡ total
    → (met_at n (line_read h text) >>= goes_on (n + 1) h told (lines_of after) (λ e. lines_read (n + 1) h (e ∷ told) (lines_of after))) ≡ total
at_line n h told text rest after total parts so_far = sym (unrolled n h told text (lines_of after) (one_or_more (λ b. b == 10) after)) ∙ sym (ap (lines_read n h told) parts) ∙ so_far

pub goes_told : (n : ℕ) (h : Head) (told : List Line) (e : Line) (text rest after : List ℕ) (total : Result Trace TraceFault) → lines_of rest ≡ text ∷ lines_of after → line_read h text ≡ Ok (Told e) → lines_read n h told (lines_of rest) ≡ total → lines_read (n + 1) h (e ∷ told) (lines_of after) ≡ total
goes_told n h told e text rest after total parts read so_far = subst (λ r. (met_at n r >>= goes_on (n + 1) h told (lines_of after) (λ x. lines_read (n + 1) h (x ∷ told) (lines_of after))) ≡ total) read (at_line n h told text rest after total parts so_far)

pub goes_end : (n : ℕ) (h : Head) (told : List Line) (i : ℕ) (text rest after : List ℕ) (total : Result Trace TraceFault) → lines_of rest ≡ text ∷ lines_of after → line_read h text ≡ Ok (End i) → lines_read n h told (lines_of rest) ≡ total → total ≡ ended (n + 1) h told i (lines_of after)
goes_end n h told i text rest after total parts read so_far = sym (subst (λ r. (met_at n r >>= goes_on (n + 1) h told (lines_of after) (λ x. lines_read (n + 1) h (x ∷ told) (lines_of after))) ≡ total) read (at_line n h told text rest after total parts so_far))

pub stops : (n : ℕ) (h : Head) (told : List Line) (f : Fault) (text rest after : List ℕ) (total : Result Trace TraceFault) → lines_of rest ≡ text ∷ lines_of after → line_read h text ≡ Err f → lines_read n h told (lines_of rest) ≡ total → total ≡ Err (fault_at n f)
stops n h told f text rest after total parts read so_far = sym (subst (λ r. (met_at n r >>= goes_on (n + 1) h told (lines_of after) (λ x. lines_read (n + 1) h (x ∷ told) (lines_of after))) ≡ total) read (at_line n h told text rest after total parts so_far))

pub runs_out : (n : ℕ) (h : Head) (told : List Line) (rest : List ℕ) (total : Result Trace TraceFault) → lines_of rest ≡ rest ∷ [] → lines_read n h told (lines_of rest) ≡ total → total ≡ Err (fault_at n (unended rest))
unfolding lines_read
runs_out n h told rest total parts so_far = sym so_far ∙ ap (lines_read n h told) parts

pub ended_empty : (n : ℕ) (h : Head) (told : List Line) (i : ℕ) (after : List ℕ) → after ≡ [] → ended n h told i (lines_of after) ≡ Ok (record { head = h; told = told; last = i })
ended_empty n h told i after e = ap (λ bs. ended n h told i (lines_of bs)) e

pub ended_ill : (n : ℕ) (h : Head) (told : List Line) (i : ℕ) (after : List ℕ) → 0 < length after → ended n h told i (lines_of after) ≡ Err (fault_at n Cut)
ended_ill n h told i [] some = absurd (omega arith)
ended_ill n h told i (b ∷ bs) some = go (b == 10) (slice_split (λ c. c == 10) bs) (one_or_more (λ c. c == 10) bs) where
  go : (t : Bool) (parts : List (List ℕ)) → 1 ≤ length parts → ended n h told i (cond t ([] ∷ parts) (onto_first b parts)) ≡ Err (fault_at n Cut)
  go true [] long = absurd (omega arith)
  go true (p ∷ ps) long = refl
  go false [] long = refl
  go false (p ∷ ps) long = refl

pub is_empty : (bs : List ℕ) → true ≡ (length bs == 0) → bs ≡ []
is_empty [] e = refl
is_empty (b ∷ bs) e = absurd (grind (arith, nat_tests))

pub is_some : (bs : List ℕ) → false ≡ (length bs == 0) → 0 < length bs
is_some bs e = grind (arith, nat_tests)

-- ---- the line of a fault

weaker : (n : ℕ) (r : Result Trace TraceFault) → IfErr r (λ e. n + 1 ≤ e.line) → IfErr r (λ e. n ≤ e.line)
weaker n (Ok t) h = tt
weaker n (Err e) h = omega (arith, h)

ended_from : (n : ℕ) (h : Head) (told : List Line) (i : ℕ) (ls : List (List ℕ)) → IfErr (ended n h told i ls) (λ e. n ≤ e.line)
ended_from n h told i [] = omega arith
ended_from n h told i ([] ∷ []) = tt
ended_from n h told i ((b ∷ bs) ∷ []) = omega arith
ended_from n h told i ([] ∷ l ∷ ls) = omega arith
ended_from n h told i ((b ∷ bs) ∷ l ∷ ls) = omega arith

from_line : (n : ℕ) (h : Head) (told : List Line) (ls : List (List ℕ)) (r : Result Read Fault) (more : Line → Result Trace TraceFault) → ((e : Line) → IfErr (more e) (λ x. n + 1 ≤ x.line)) → IfErr (met_at n r >>= goes_on (n + 1) h told ls more) (λ x. n ≤ x.line)
from_line n h told ls (Ok (Told e)) more later = weaker n (more e) (later e)
from_line n h told ls (Ok (End i)) more later = weaker n (ended (n + 1) h told i ls) (ended_from (n + 1) h told i ls)
from_line n h told ls (Err f) more later = omega arith

pub faults_from : (n : ℕ) (h : Head) (told : List Line) (ls : List (List ℕ)) → IfErr (lines_read n h told ls) (λ e. n ≤ e.line)
unfolding lines_read
faults_from n h told [] = omega arith
faults_from n h told (text ∷ []) = omega arith
faults_from n h told (text ∷ next ∷ more) = from_line n h told (next ∷ more) (line_read h text) (λ e. lines_read (n + 1) h (e ∷ told) (next ∷ more)) (λ e. faults_from (n + 1) h (e ∷ told) (next ∷ more))

-- ---- what lines before told is kept

fewer : (told : List Line) (e : Line) (r : Result Trace TraceFault) → IfOk r (λ t. length (e ∷ told) ≤ length t.told) → IfOk r (λ t. length told ≤ length t.told)
fewer told e (Ok t) h = omega (arith, h)
fewer told e (Err f) h = tt

ended_all : (n : ℕ) (h : Head) (told : List Line) (i : ℕ) (ls : List (List ℕ)) → IfOk (ended n h told i ls) (λ t. length told ≤ length t.told)
ended_all n h told i [] = tt
ended_all n h told i ([] ∷ []) = omega arith
ended_all n h told i ((b ∷ bs) ∷ []) = tt
ended_all n h told i ([] ∷ l ∷ ls) = tt
ended_all n h told i ((b ∷ bs) ∷ l ∷ ls) = tt

all_line : (n : ℕ) (h : Head) (told : List Line) (ls : List (List ℕ)) (r : Result Read Fault) (more : Line → Result Trace TraceFault) → ((e : Line) → IfOk (more e) (λ t. length (e ∷ told) ≤ length t.told)) → IfOk (met_at n r >>= goes_on (n + 1) h told ls more) (λ t. length told ≤ length t.told)
all_line n h told ls (Ok (Told e)) more later = fewer told e (more e) (later e)
all_line n h told ls (Ok (End i)) more later = ended_all (n + 1) h told i ls
all_line n h told ls (Err f) more later = tt

pub all_from : (n : ℕ) (h : Head) (told : List Line) (ls : List (List ℕ)) → IfOk (lines_read n h told ls) (λ t. length told ≤ length t.told)
unfolding lines_read
all_from n h told [] = tt
all_from n h told (text ∷ []) = tt
all_from n h told (text ∷ next ∷ more) = all_line n h told (next ∷ more) (line_read h text) (λ e. lines_read (n + 1) h (e ∷ told) (next ∷ more)) (λ e. all_from (n + 1) h (e ∷ told) (next ∷ more))
