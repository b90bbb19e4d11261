-- One line, taken after others.
use Rattle.std.proofs.Common.{◌≡◌, ℕ, Bool, true, false, not, List, [], ◌∷◌, ◌++◌, reverse, Option, Some, Result, Ok, Err, refl, sym, ap, ◌∙◌}
use Rattle.std.specs.Prelude.{nat_lt, if◌then◌else◌}
use Rattle.std.proofs.lemmas.List.{reverse-append}
use Rattle.lines.specs.Faults.{◌>>=◌}
use Rattle.histories.specs.declared.head.Head.{Head}
use Rattle.histories.specs.declared.entry.Entry.{Entry}
use Rattle.histories.specs.declared.entry.HistoryLine.{HistoryLine}
use Rattle.histories.specs.declared.reading.Read.{Read}
use Rattle.histories.specs.declared.reading.Read.TheVariants as read
use Rattle.histories.specs.declared.fault.Fault.{Fault}
use Rattle.histories.specs.declared.fault.Fault.TheVariants.{OutOfRange}
use Rattle.histories.specs.Reading.{line_read}
use Rattle.judge_report.specs.declared.reading.History.{History}
use Rattle.judge_report.specs.Heard.{Heard, fault_at, heard_of, line_taken, met_at, seen_with, taken_by}

is_low : (b : Bool) → false ≡ not b → b ≡ true
is_low true e = refl
is_low false e = absurd cc

is_high : (b : Bool) → true ≡ not b → b ≡ false
is_high true e = absurd cc
is_high false e = refl

pub ill_line : (n : ℕ) (h : Heard) (text : List ℕ) (f : Fault) → line_read h.head text ≡ Err f → line_taken n h text ≡ Err (fault_at n f)
ill_line n h text f is = ap (λ (r : Result Read Fault). met_at n (r >>= taken_by n h)) is

pub falls : (n : ℕ) (h : Heard) (text : List ℕ) (i : ℕ) (e : Option Entry) → line_read h.head text ≡ Ok (read.Told i e) → false ≡ not (nat_lt i h.last) → line_taken n h text ≡ Err (fault_at n OutOfRange)
falls n h text i e is low =
    ap (λ (r : Result Read Fault). met_at n (r >>= taken_by n h)) is
    ∙ ap (λ (b : Bool). met_at n (if b then Err OutOfRange else Ok (record { ends = false; heard = record h { seen = seen_with n i e h.seen; last = i } }))) (is_low (nat_lt i h.last) low)

pub end_falls : (n : ℕ) (h : Heard) (text : List ℕ) (i : ℕ) → line_read h.head text ≡ Ok (read.End i) → false ≡ not (nat_lt i h.last) → line_taken n h text ≡ Err (fault_at n OutOfRange)
end_falls n h text i is low =
    ap (λ (r : Result Read Fault). met_at n (r >>= taken_by n h)) is
    ∙ ap (λ (b : Bool). met_at n (if b then Err OutOfRange else Ok (record { ends = true; heard = record h { last = i } }))) (is_low (nat_lt i h.last) low)

told_so : (n : ℕ) (h : Heard) (text : List ℕ) (i : ℕ) (e : Option Entry) → line_read h.head text ≡ Ok (read.Told i e) → true ≡ not (nat_lt i h.last)
    → line_taken n h text ≡ Ok (record { ends = false; heard = record { head = h.head; seen = seen_with n i e h.seen; last = i } })
told_so n h text i e is high =
    ap (λ (r : Result Read Fault). met_at n (r >>= taken_by n h)) is
    ∙ ap (λ (b : Bool). met_at n (if b then Err OutOfRange else Ok (record { ends = false; heard = record h { seen = seen_with n i e h.seen; last = i } }))) (is_high (nat_lt i h.last) high)

end_so : (n : ℕ) (h : Heard) (text : List ℕ) (i : ℕ) → line_read h.head text ≡ Ok (read.End i) → true ≡ not (nat_lt i h.last)
    → line_taken n h text ≡ Ok (record { ends = true; heard = record { head = h.head; seen = h.seen; last = i } })
end_so n h text i is high =
    ap (λ (r : Result Read Fault). met_at n (r >>= taken_by n h)) is
    ∙ ap (λ (b : Bool). met_at n (if b then Err OutOfRange else Ok (record { ends = true; heard = record h { last = i } }))) (is_high (nat_lt i h.last) high)

heard_so : (h : Head) (seen : List HistoryLine) (i : ℕ) (k : History) → k.head ≡ h → reverse k.lines.items ≡ seen → k.last ≡ i → record { head = h; seen = seen; last = i } ≡ heard_of k
heard_so h seen i k p q r =
    let same : heard_of k ≡ record { head = h; seen = seen; last = i } = λ j. record { head = p j; seen = q j; last = r j } in
    sym same

pub tells : (n : ℕ) (old : History) (text : List ℕ) (i : ℕ) (e : Option Entry) (k : History) → line_read old.head text ≡ Ok (read.Told i e) → true ≡ not (nat_lt i old.last)
    → k.head ≡ old.head → reverse k.lines.items ≡ seen_with n i e (reverse old.lines.items) → k.last ≡ i → line_taken n (heard_of old) text ≡ Ok (record { ends = false; heard = heard_of k })
tells n old text i e k is high head seen last =
    told_so n (heard_of old) text i e is high ∙ ap (λ (h : Heard). Ok (record { ends = false; heard = h })) (heard_so old.head (seen_with n i e (reverse old.lines.items)) i k head seen last)

pub ends : (n : ℕ) (old : History) (text : List ℕ) (i : ℕ) (k : History) → line_read old.head text ≡ Ok (read.End i) → true ≡ not (nat_lt i old.last)
    → k.head ≡ old.head → k.lines ≡ old.lines → k.last ≡ i → line_taken n (heard_of old) text ≡ Ok (record { ends = true; heard = heard_of k })
ends n old text i k is high head lines last =
    end_so n (heard_of old) text i is high ∙ ap (λ (h : Heard). Ok (record { ends = true; heard = h })) (heard_so old.head (reverse old.lines.items) i k head (ap (λ ls. reverse ls.items) lines) last)

pub kept : (n i : ℕ) (e : Entry) (old new : List HistoryLine) → new ≡ old ++ (record { number = n; event = i; entry = e }) ∷ [] → reverse new ≡ seen_with n i (Some e) (reverse old)
kept n i e old new is = ap reverse is ∙ reverse-append old ((record { number = n; event = i; entry = e }) ∷ [])
