-- A fault is at a line of the bytes.
use Rattle.std.proofs.Common.{◌≡◌, ℕ, ◌+◌, ◌≤◌, ◌==◌, Bool, true, false, List, [], ◌∷◌, length, Result, Ok, Err, refl, subst, arith}
use Rattle.std.specs.Prelude.{if◌then◌else◌}
use Rattle.std.proofs.lemmas.List.Splits.{length-slice_split}
use Rattle.lines.specs.Lines.{lines_of}
use Rattle.lines.specs.Faults.{◌>>=◌}
use Rattle.histories.specs.declared.head.Head.{Head}
use Rattle.histories.specs.declared.fault.Fault.{Fault}
use Rattle.histories.specs.declared.fault.Fault.TheVariants.{Cut}
use Rattle.histories.specs.declared.fault.HistoryFault.{HistoryFault}
use Rattle.histories.specs.Reading.{head_read, line_read}
use Rattle.judge_report.specs.Heard.{Heard, Taken, begun, closed, fault_at, goes_on, line_taken, lines_read, met_at, taken_by, text_read, unended}
use Rattle.judge_report.specs.Laws.{FaultsAreAtLines}

-- from line n on there are this many
abbrev IsAmong : ℕ → ℕ → HistoryFault → Type 0
IsAmong n many f = (n ≤ f.line) × (f.line + 1 ≤ n + many)

at_first : (n many : ℕ) (e : Fault) (f : HistoryFault) → 1 ≤ many → fault_at n e ≡ f → IsAmong n many f
at_first n many e f some is = subst (IsAmong n many) is (omega arith, omega (arith, some))

met : {A : Type 0} (n many : ℕ) (r : Result A Fault) (f : HistoryFault) → 1 ≤ many → met_at n r ≡ Err f → IsAmong n many f
met n many (Ok x) f some is = let no : Ok x ≡ Err f = is in absurd cc
met n many (Err e) f some is = let same : fault_at n e ≡ f = cc in at_first n many e f some same

of_close : (n many : ℕ) (h : Heard) (ls : List (List ℕ)) (f : HistoryFault) → 1 ≤ many → closed n h ls ≡ Err f → IsAmong n many f
of_close n many h ([] ∷ []) f some is = let no : Ok h ≡ Err f = is in absurd cc
of_close n many h [] f some is = let same : fault_at n Cut ≡ f = cc in at_first n many Cut f some same
of_close n many h ((b ∷ bs) ∷ ls) f some is = let same : fault_at n Cut ≡ f = cc in at_first n many Cut f some same
of_close n many h ([] ∷ l ∷ ls) f some is = let same : fault_at n Cut ≡ f = cc in at_first n many Cut f some same

of_lines : (n : ℕ) (h : Heard) (l : List ℕ) (ls : List (List ℕ)) (f : HistoryFault) → lines_read n h (l ∷ ls) ≡ Err f → IsAmong n (length (l ∷ ls)) f
unfolding lines_read
of_lines n h text [] f is = let same : fault_at n (unended text) ≡ f = cc in at_first n 1 (unended text) f (omega arith) same
of_lines n h text (next ∷ more) f is = by_line (line_taken n h text) refl is (λ mid. of_lines (n + 1) mid next more f)
  where
    further : IsAmong (n + 1) (length (next ∷ more)) f → IsAmong n (length (text ∷ next ∷ more)) f
    further a = let low = a.0 in let high = a.1 in (omega (arith, low), omega (arith, high))

    by_end : (t : Taken) (b : Bool) → (if b then closed (n + 1) t.heard (next ∷ more) else lines_read (n + 1) t.heard (next ∷ more)) ≡ Err f → (lines_read (n + 1) t.heard (next ∷ more) ≡ Err f → IsAmong (n + 1) (length (next ∷ more)) f) → IsAmong n (length (text ∷ next ∷ more)) f
    by_end t true is rest = further (of_close (n + 1) (length (next ∷ more)) t.heard (next ∷ more) f (omega arith) is)
    by_end t false is rest = further (rest is)

    by_line : (r : Result Taken HistoryFault) → line_taken n h text ≡ r → (r >>= goes_on (n + 1) (next ∷ more) (λ m. lines_read (n + 1) m (next ∷ more))) ≡ Err f → ((mid : Heard) → lines_read (n + 1) mid (next ∷ more) ≡ Err f → IsAmong (n + 1) (length (next ∷ more)) f) → IsAmong n (length (text ∷ next ∷ more)) f
    by_line (Err e) taken is rest =
        let same : e ≡ f = cc in
        let this : line_taken n h text ≡ Err f = cc in
        met n (length (text ∷ next ∷ more)) (line_read h.head text >>= taken_by n h) f (omega arith) this
    by_line (Ok t) taken is rest = by_end t t.ends is (rest t.heard)

of_text : (ls : List (List ℕ)) (f : HistoryFault) → 1 ≤ length ls → text_read ls ≡ Err f → IsAmong 1 (length ls) f
of_text [] f some is = absurd (omega (arith, some))
of_text (text ∷ []) f some is = let same : fault_at 1 (unended text) ≡ f = cc in at_first 1 1 (unended text) f (omega arith) same
of_text (text ∷ next ∷ more) f some is = by_head (head_read text) refl is
  where
    by_head : (r : Result Head Fault) → head_read text ≡ r → (met_at 1 r >>= λ h. lines_read 2 (begun h) (next ∷ more)) ≡ Err f → IsAmong 1 (length (text ∷ next ∷ more)) f
    by_head (Err e) head is = let same : fault_at 1 e ≡ f = cc in at_first 1 (length (text ∷ next ∷ more)) e f (omega arith) same
    by_head (Ok h) head is = let a = of_lines 2 (begun h) next more f is in let low = a.0 in let high = a.1 in (omega (arith, low), omega (arith, high))

pub faults_at_lines : FaultsAreAtLines
faults_at_lines bytes f is =
    let many : 1 ≤ length (lines_of bytes) = omega (arith, length-slice_split (λ (b : ℕ). b == 10) bytes) in
    let a = of_text (lines_of bytes) f many is in
    let low = a.0 in
    let high = a.1 in
    (low, omega (arith, high))
