-- The lines of a history that was read are those of its bytes.
use Rattle.std.proofs.Common.{◌≡◌, ℕ, ◌+◌, ◌<◌, ◌≤◌, Bool, true, false, List, [], ◌∷◌, ◌++◌, reverse, Some, None, Result, Ok, Err, append_assoc, refl, sym, ap, subst, ◌∙◌, arith}
use Rattle.std.specs.Prelude.{All, if◌then◌else◌, nat_lt}
use Rattle.std.specs.List.{AllPairs}
use Rattle.std.specs.Str.{is_utf8}
use Rattle.std.proofs.lemmas.Str.{IsUtf8-from_ascii, is_utf8-from_IsUtf8}
use Rattle.std.proofs.lemmas.Str.Ascii.{IsAscii-from_all}
use Rattle.std.proofs.lemmas.Bool.Decides.{nat_tests}
use Rattle.std.proofs.lemmas.List.{reverse-append}
use Rattle.std.proofs.lemmas.List.Elements.{All-nil, All-cons}
use Rattle.std.proofs.lemmas.List.Kept.{AllPairs-cons}
use Rattle.lines.specs.Lines.{lines_of}
use Rattle.lines.specs.Faults.{◌>>=◌}
use Rattle.histories.specs.declared.head.Head.{Head}
use Rattle.histories.specs.declared.entry.Entry.{Entry}
use Rattle.histories.specs.declared.entry.HistoryLine.{HistoryLine}
use Rattle.histories.specs.declared.reading.Read.{Read}
use Rattle.histories.specs.declared.reading.Read.TheVariants as read
use Rattle.histories.specs.declared.fault.Fault.{Fault}
use Rattle.histories.specs.declared.fault.Fault.TheVariants.{NotUtf8, OutOfRange, Cut}
use Rattle.histories.specs.declared.fault.HistoryFault.{HistoryFault}
use Rattle.histories.specs.Reading.{head_read, line_read, line_said}
use Rattle.judge_report.specs.Heard.{Heard, Taken, begun, closed, fault_at, goes_on, line_taken, lines_read, met_at, seen_with, taken_by, text_read, unended}
use Rattle.judge_report.specs.Laws.{AreNumbered, LinesAreNumbered, seen_by, seen_from}

-- ---- one line

-- after these, no event is below one before it
record IsRising (h : Heard) : Type 0 where
  below : All (λ (l : HistoryLine). l.event ≤ h.last) h.seen
  pairs : AllPairs (λ (a b : HistoryLine). b.event ≤ a.event) h.seen

-- what a line that is taken adds
record Adds (n : ℕ) (h : Heard) (said : Result Read Fault) (k : Heard) : Type 0 where
  head : k.head ≡ h.head
  seen : (more : List HistoryLine) → reverse k.seen ++ more ≡ reverse h.seen ++ seen_by n said more
  rising : IsRising h → IsRising k

not_low : (i last : ℕ) → nat_lt i last ≡ false → last ≤ i
not_low i last e = grind (arith, nat_tests)

raised : (h : Heard) (i : ℕ) → h.last ≤ i → IsRising h → IsRising (record h { last = i })
raised h i most r = record { below = λ k d lt. let b = r.below k d lt in omega (arith, b, most); pairs = r.pairs }

adds_none : (n : ℕ) (h : Heard) (i : ℕ) → h.last ≤ i → Adds n h (Ok (read.Told i None)) (record h { seen = h.seen; last = i })
adds_none n h i most = record { head = refl; seen = λ more. refl; rising = raised h i most }

adds_some : (n : ℕ) (h : Heard) (i : ℕ) (e : Entry) → h.last ≤ i → Adds n h (Ok (read.Told i (Some e))) (record h { seen = seen_with n i (Some e) h.seen; last = i })
adds_some n h i e most =
    let l : HistoryLine = record { number = n; event = i; entry = e } in
    record {
      head = refl;
      seen = λ more. ap (λ (ls : List HistoryLine). ls ++ more) (reverse-append (l ∷ []) h.seen) ∙ append_assoc (reverse h.seen) (l ∷ []) more;
      rising = λ r. record {
        below = All-cons (λ (x : HistoryLine). x.event ≤ i) l h.seen (omega arith) (λ k d lt. let b = r.below k d lt in omega (arith, b, most));
        pairs = AllPairs-cons (λ (a b : HistoryLine). b.event ≤ a.event) l h.seen (λ k d lt. let b = r.below k d lt in omega (arith, b, most)) r.pairs;
      };
    }

adds_end : (n : ℕ) (h : Heard) (i : ℕ) → h.last ≤ i → Adds n h (Ok (read.End i)) (record h { last = i })
adds_end n h i most = record { head = refl; seen = λ more. refl; rising = raised h i most }

taken_adds : (n : ℕ) (h : Heard) (said : Result Read Fault) (t : Taken) → met_at n (said >>= taken_by n h) ≡ Ok t → Adds n h said t.heard
taken_adds n h (Err f) t is = let no : Err (fault_at n f) ≡ Ok t = is in absurd cc
taken_adds n h (Ok (read.Told i None)) t is = go (nat_lt i h.last) refl is
  where
    go : (b : Bool) → nat_lt i h.last ≡ b → met_at n (if b then Err OutOfRange else Ok (record { ends = false; heard = record h { seen = h.seen; last = i } })) ≡ Ok t → Adds n h (Ok (read.Told i None)) t.heard
    go true low is = let no : Err (fault_at n OutOfRange) ≡ Ok t = is in absurd cc
    go false low is =
        let made : record { ends = false; heard = record h { seen = h.seen; last = i } } ≡ t = cc in
        subst (λ (u : Taken). Adds n h (Ok (read.Told i None)) u.heard) made (adds_none n h i (not_low i h.last low))
taken_adds n h (Ok (read.Told i (Some e))) t is = go (nat_lt i h.last) refl is
  where
    go : (b : Bool) → nat_lt i h.last ≡ b → met_at n (if b then Err OutOfRange else Ok (record { ends = false; heard = record h { seen = seen_with n i (Some e) h.seen; last = i } })) ≡ Ok t → Adds n h (Ok (read.Told i (Some e))) t.heard
    go true low is = let no : Err (fault_at n OutOfRange) ≡ Ok t = is in absurd cc
    go false low is =
        let made : record { ends = false; heard = record h { seen = seen_with n i (Some e) h.seen; last = i } } ≡ t = cc in
        subst (λ (u : Taken). Adds n h (Ok (read.Told i (Some e))) u.heard) made (adds_some n h i e (not_low i h.last low))
taken_adds n h (Ok (read.End i)) t is = go (nat_lt i h.last) refl is
  where
    go : (b : Bool) → nat_lt i h.last ≡ b → met_at n (if b then Err OutOfRange else Ok (record { ends = true; heard = record h { last = i } })) ≡ Ok t → Adds n h (Ok (read.End i)) t.heard
    go true low is = let no : Err (fault_at n OutOfRange) ≡ Ok t = is in absurd cc
    go false low is =
        let made : record { ends = true; heard = record h { last = i } } ≡ t = cc in
        subst (λ (u : Taken). Adds n h (Ok (read.End i)) u.heard) made (adds_end n h i (not_low i h.last low))

-- ---- all lines

-- what lines add to what was read
record AddAll (n : ℕ) (h : Heard) (ls : List (List ℕ)) (k : Heard) : Type 0 where
  head : k.head ≡ h.head
  seen : reverse k.seen ≡ reverse h.seen ++ seen_from n h.head ls
  rising : IsRising h → IsRising k

append_nothing : (xs : List HistoryLine) → xs ≡ xs ++ []
append_nothing [] = refl
append_nothing (x ∷ xs) = ap (λ (ys : List HistoryLine). x ∷ ys) (append_nothing xs)

-- no bytes are a text, which says nothing
empty_text : is_utf8 [] ≡ true
empty_text = is_utf8-from_IsUtf8 [] (IsUtf8-from_ascii [] (IsAscii-from_all [] (All-nil (λ (b : ℕ). b < 128))))

-- nothing is after the last line
closes : (n : ℕ) (h k : Heard) (ls : List (List ℕ)) → closed n h ls ≡ Ok k → (h ≡ k) × (seen_from n h.head ls ≡ [])
closes n h k ([] ∷ []) is = let same : h ≡ k = cc in (same, ap (λ (b : Bool). seen_by n (if b then line_said h.head [] else Err NotUtf8) []) empty_text)
closes n h k [] is = let no : Err (fault_at n Cut) ≡ Ok k = is in absurd cc
closes n h k ((b ∷ bs) ∷ ls) is = let no : Err (fault_at n Cut) ≡ Ok k = is in absurd cc
closes n h k ([] ∷ l ∷ ls) is = let no : Err (fault_at n Cut) ≡ Ok k = is in absurd cc

join : (n : ℕ) (h : Heard) (text : List ℕ) (ls : List (List ℕ)) (mid k : Heard) → Adds n h (line_read h.head text) mid → AddAll (n + 1) mid ls k → AddAll n h (text ∷ ls) k
join n h text ls mid k one rest = record {
  head = rest.head ∙ one.head;
  seen = rest.seen ∙ ap (λ (d : Head). reverse mid.seen ++ seen_from (n + 1) d ls) one.head ∙ one.seen (seen_from (n + 1) h.head ls);
  rising = λ r. rest.rising (one.rising r);
}

adds_all : (n : ℕ) (h : Heard) (ls : List (List ℕ)) (k : Heard) → lines_read n h ls ≡ Ok k → AddAll n h ls k
unfolding lines_read
adds_all n h [] k is = let no : Err (fault_at n Cut) ≡ Ok k = is in absurd cc
adds_all n h (text ∷ []) k is = let no : Err (fault_at n (unended text)) ≡ Ok k = is in absurd cc
adds_all n h (text ∷ next ∷ more) k is = by_line (line_taken n h text) refl is (λ mid. adds_all (n + 1) mid (next ∷ more) k)
  where
    by_end : (t : Taken) (b : Bool) → Adds n h (line_read h.head text) t.heard → (if b then closed (n + 1) t.heard (next ∷ more) else lines_read (n + 1) t.heard (next ∷ more)) ≡ Ok k → (lines_read (n + 1) t.heard (next ∷ more) ≡ Ok k → AddAll (n + 1) t.heard (next ∷ more) k) → AddAll n h (text ∷ next ∷ more) k
    by_end t true one is rest =
        let c = closes (n + 1) t.heard k (next ∷ more) is in
        join n h text (next ∷ more) t.heard k one (record {
          head = ap (λ (x : Heard). x.head) (sym c.0);
          seen = ap (λ (x : Heard). reverse x.seen) (sym c.0) ∙ append_nothing (reverse t.heard.seen) ∙ ap (λ (ls : List HistoryLine). reverse t.heard.seen ++ ls) (sym c.1);
          rising = λ r. subst IsRising c.0 r;
        })
    by_end t false one is rest = join n h text (next ∷ more) t.heard k one (rest is)

    by_line : (r : Result Taken HistoryFault) → line_taken n h text ≡ r → (r >>= goes_on (n + 1) (next ∷ more) (λ m. lines_read (n + 1) m (next ∷ more))) ≡ Ok k → ((mid : Heard) → lines_read (n + 1) mid (next ∷ more) ≡ Ok k → AddAll (n + 1) mid (next ∷ more) k) → AddAll n h (text ∷ next ∷ more) k
    by_line (Err f) taken is rest = let no : Err f ≡ Ok k = is in absurd cc
    by_line (Ok t) taken is rest = by_end t t.ends (taken_adds n h (line_read h.head text) t taken) is (rest t.heard)

-- ---- the whole

abbrev nothing_yet : (h : Head) → IsRising (begun h)
nothing_yet h = record { below = All-nil (λ (l : HistoryLine). l.event ≤ 0); pairs = λ i j d less few. absurd (omega (arith, few)) }

of_text : (bytes : List ℕ) (ls : List (List ℕ)) (k : Heard) → lines_of bytes ≡ ls → text_read ls ≡ Ok k → AreNumbered bytes k
of_text bytes [] k cut is = let no : Err (fault_at 1 Cut) ≡ Ok k = is in absurd cc
of_text bytes (text ∷ []) k cut is = let no : Err (fault_at 1 (unended text)) ≡ Ok k = is in absurd cc
of_text bytes (text ∷ next ∷ more) k cut is = by_head (head_read text) refl is
  where
    by_head : (r : Result Head Fault) → head_read text ≡ r → (met_at 1 r >>= λ h. lines_read 2 (begun h) (next ∷ more)) ≡ Ok k → AreNumbered bytes k
    by_head (Err f) head is = let no : Err (fault_at 1 f) ≡ Ok k = is in absurd cc
    by_head (Ok h) head is =
        let all = adds_all 2 (begun h) (next ∷ more) k is in
        record {
          first = text;
          more = next ∷ more;
          lines = cut;
          head = head ∙ ap Ok (sym all.head);
          seen = all.seen ∙ ap (λ (d : Head). seen_from 2 d (next ∷ more)) (sym all.head);
          rising = (all.rising (nothing_yet h)).pairs;
        }

pub numbered : LinesAreNumbered
numbered bytes k is = of_text bytes (lines_of bytes) k refl is
