-- Lines with a doom are refuted, as they are without it and with each kill in its place.
use Rattle.std.proofs.Common.{◌≡◌, ℕ, ◌+◌, ◌-◌, ◌<◌, ◌≤◌, ◌⊎◌, inl, inr, Bool, true, false, List, [], ◌∷◌, ◌++◌, drop, get_or, length, reverse, take, refl, sym, ap, ap₂, subst, ◌∙◌, arith, append_assoc}
use Rattle.std.specs.Prelude.{nat_lt}
use Rattle.std.proofs.lemmas.Bool.Decides.{nat_tests}
use Rattle.std.proofs.Math.Seq.{drop-append_seam, take-append_seam, take-length}
use Rattle.std.proofs.lemmas.List.{drop-map, length-append, length-drop, length-map, length-reverse, reverse-append, reverse-reverse, take-append-drop, take-map, take_more}
use Rattle.facts.specs.declared.fact.Fact.TheVariants.{Kill}
use Rattle.histories.specs.declared.entry.Entry.{Entry}
use Rattle.histories.specs.declared.entry.Entry.TheVariants.{Told, Doom}
use Rattle.histories.specs.declared.entry.HistoryLine.{HistoryLine}
use Rattle.histories.specs.Histories.{LegalHistory}
use Rattle.refuting.specs.Turns.{entries}
use Rattle.refuting.specs.Kills.{AreNever, IsNever, IsNeverDoomed, kill_line, with_kill}
use Rattle.refuting.proofs.Killing.{killed_or_not}

entries-append : (xs ys : List HistoryLine) → entries (xs ++ ys) ≡ entries xs ++ entries ys
entries-append [] ys = refl
entries-append (x ∷ xs) ys = ap (λ (es : List Entry). x.entry ∷ es) (entries-append xs ys)

-- newest first
newest : (xs ys : List HistoryLine) → reverse (entries (xs ++ ys)) ≡ reverse (entries ys) ++ reverse (entries xs)
newest xs ys = ap reverse (entries-append xs ys) ∙ reverse-append (entries xs) (entries ys)

newest_cons : (x : HistoryLine) (xs : List HistoryLine) → reverse (entries (x ∷ xs)) ≡ reverse (entries xs) ++ x.entry ∷ []
newest_cons x xs = newest (x ∷ []) xs

-- where a list is two, as many as the second one stand at the end of it
module _ (rest : List HistoryLine) (a b : List Entry) (is : reverse (entries rest) ≡ a ++ b) where
  ordered : entries rest ≡ reverse b ++ reverse a
  ordered = sym (reverse-reverse (entries rest)) ∙ ap reverse is ∙ reverse-append a b

  counted : length b ≡ length (reverse b)
  counted = sym (length-reverse b)

  first_so : entries (take (length b) rest) ≡ reverse b
  first_so =
      sym (take-map (λ (x : HistoryLine). x.entry) (length b) rest) ∙ ap (take (length b)) ordered
      ∙ ap (λ (n : ℕ). take n (reverse b ++ reverse a)) counted ∙ take-append_seam (reverse b) (reverse a)

  last_so : entries (drop (length b) rest) ≡ reverse a
  last_so =
      sym (drop-map (λ (x : HistoryLine). x.entry) (length b) rest) ∙ ap (drop (length b)) ordered
      ∙ ap (λ (n : ℕ). drop n (reverse b ++ reverse a)) counted ∙ drop-append_seam (reverse b) (reverse a)

  within : length b ≤ length rest
  within =
      let long : length rest ≡ length b + length a =
      sym (length-map rest (λ (x : HistoryLine). x.entry)) ∙ ap (λ (es : List Entry). length es) ordered
      ∙ length-append (reverse b) (reverse a) ∙ ap₂ (λ (m n : ℕ). m + n) (length-reverse b) (length-reverse a) in
      omega (arith, long)

  -- the lines with a kill there
  killed_there : (before : List HistoryLine) (t : ℕ) → reverse (entries (with_kill before rest (length b) t)) ≡ a ++ Told (Kill t) ∷ (b ++ reverse (entries before))
  killed_there before t =
      let more = kill_line t ∷ drop (length b) rest in
      let old = reverse (entries before) in
      newest before (take (length b) rest ++ more)
      ∙ ap (λ (es : List Entry). es ++ old) (newest (take (length b) rest) more ∙ ap₂ (λ (xs ys : List Entry). xs ++ ys) (newest_cons (kill_line t) (drop (length b) rest) ∙ ap (λ (es : List Entry). reverse es ++ Told (Kill t) ∷ []) last_so ∙ ap (λ (es : List Entry). es ++ Told (Kill t) ∷ []) (reverse-reverse a)) (ap reverse first_so ∙ reverse-reverse b))
      ∙ append_assoc (a ++ Told (Kill t) ∷ []) b old ∙ append_assoc a (Told (Kill t) ∷ []) (b ++ old)

-- no trace shows lines with a doom, if none shows them without it, or with a kill instead
pub never_doomed : (n : ℕ) (before rest : List HistoryLine) (t : ℕ) → IsNever n (before ++ rest) → AreNever n before rest t (length rest + 1) → IsNeverDoomed n before t rest
never_doomed n before rest t without each legal = go (killed_or_not n t (reverse (entries rest)) (reverse (entries before)) legal)
  where
    go : LegalHistory n (reverse (entries rest) ++ reverse (entries before)) ⊎ ((a : List Entry) × (b : List Entry) × (reverse (entries rest) ≡ a ++ b) × LegalHistory n (a ++ Told (Kill t) ∷ (b ++ reverse (entries before)))) → ⊥
    go (inl so) = without (subst (LegalHistory n) (sym (newest before rest)) so)
    go (inr (a, b, is, so)) =
        let lt : length b ≤ length rest = within rest a b is in
        each (length b) (omega (arith, lt)) (subst (LegalHistory n) (sym (killed_there rest a b is before t)) so)

-- each kill below one more is one below, or that one
pub one_more : (n : ℕ) (before rest : List HistoryLine) (t k : ℕ) → AreNever n before rest t k → IsNever n (with_kill before rest k t) → AreNever n before rest t (k + 1)
one_more n before rest t k each here i lt = go (nat_lt i k) refl
  where
    go : (b : Bool) → nat_lt i k ≡ b → IsNever n (with_kill before rest i t)
    go true below = each i (grind (arith, nat_tests))
    go false above = let same : k ≡ i = grind (arith, nat_tests) in subst (λ (j : ℕ). IsNever n (with_kill before rest j t)) same here

-- the lines from a place on
pub tail_is : (at : ℕ) (lines : List HistoryLine) → take (length lines - at) (drop at lines) ≡ drop at lines
tail_is at lines = ap (λ (n : ℕ). take n (drop at lines)) (sym (length-drop at lines)) ∙ take-length (drop at lines)

-- the lines around a doom are all lines
pub around : (n at t : ℕ) (lines : List HistoryLine) (l : HistoryLine) → at < length lines → get_or lines at l ≡ l → l.entry ≡ Doom t → IsNeverDoomed n (take at lines) t (drop (at + 1) lines) → IsNever n lines
around n at t lines l lt is doom never legal =
    let before = take at lines in
    let rest = drop (at + 1) lines in
    let all : lines ≡ before ++ l ∷ rest =
    sym (take-append-drop (at + 1) lines) ∙ ap (λ (ls : List HistoryLine). ls ++ rest) (take_more lines at l lt ∙ ap (λ (x : HistoryLine). before ++ x ∷ []) is) ∙ append_assoc before (l ∷ []) rest in
    let old = reverse (entries before) in
    let so : reverse (entries lines) ≡ reverse (entries rest) ++ Doom t ∷ old =
    ap (λ (ls : List HistoryLine). reverse (entries ls)) all ∙ newest before (l ∷ rest)
    ∙ ap (λ (es : List Entry). es ++ old) (newest_cons l rest ∙ ap (λ (e : Entry). reverse (entries rest) ++ e ∷ []) doom)
    ∙ append_assoc (reverse (entries rest)) (Doom t ∷ []) old in
    never (subst (LegalHistory n) so legal)
