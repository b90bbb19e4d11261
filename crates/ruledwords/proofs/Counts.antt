-- What counters say of histories, from step to step.
use Rattle.std.proofs.Common.{Bool, true, false, ◌≡◌, ◌≢◌, ℕ, suc, ◌+◌, ◌-◌, ◌<◌, ◌≤◌, ◌==◌, get_or, Option, Some, None, List, [], ◌∷◌, ◌++◌, length, refl, sym, ap, ◌∙◌, subst, arith, eq-eqb, ne_eqb}
use Rattle.std.specs.Prelude.{if◌then◌else◌}
use mathlib.Core.Logic.{dite}
use native.Mathlib.Decide.{ℕ_discrete}
use Rattle.lockword.specs.declared.reply.Reply.{Reply}
use Rattle.posixmutex.specs.declared.point.Operation.{Operation}
use Rattle.posixmutex.specs.declared.point.Point.{Point}
use Rattle.memorymap.specs.Layouts.{Layout', IsLayout, cell_place}
use Rattle.condvar.specs.Laws.{reply_counts}
use Rattle.ruledwords.specs.Cards.{at}
use Rattle.ruledwords.specs.Counts.{cell_at, counter_in, counts_in, mutex_at, total_of, Counted}
use Rattle.ruledwords.proofs.Lists.{told}

-- ---- sums

added : (a b c d x : ℕ) → a ≡ b → c ≡ d + x → a + c ≡ (b + d) + x
added a b c d x e f = omega arith

one_more : (a b c d : ℕ) → a ≡ b + 1 → c ≡ d → a + c ≡ (b + d) + 1
one_more a b c d e f = omega arith

-- counters that are the same
pub total_same : (m : ℕ) (ns : List ℕ) (f g : ℕ → ℕ) (q : ℕ) → ((p : ℕ) → q ≤ p → p < q + length ns → g p ≡ f p) → total_of m ns g q ≡ total_of m ns f q
total_same m [] f g q same = refl
total_same m (n ∷ ns) f g q same =
    let first : g q ≡ f q = same q (omega arith) (omega arith) in
    let rest = total_same m ns f g (q + 1) (λ p low high. same p (omega arith) (omega arith)) in
    λ i. (if n == m then first i else 0) + rest i

-- one of them is one more, and it is one of m's
pub total_more : (m : ℕ) (ns : List ℕ) (f g : ℕ → ℕ) (q i : ℕ) → q ≤ i → i < q + length ns → get_or ns (i - q) 0 ≡ m → g i ≡ f i + 1 → ((p : ℕ) → p ≢ i → g p ≡ f p) → total_of m ns g q ≡ total_of m ns f q + 1
total_more m [] f g q i low high its more same = absurd (omega arith)
total_more m (n ∷ ns) f g q i low high its more same = dite (ℕ_discrete i q)
    (λ here.
    let first : i - q ≡ 0 = omega arith in
    let mine : n ≡ m = sym (ap (λ (j : ℕ). get_or (n ∷ ns) j 0) first) ∙ its in
    let test : (n == m) ≡ true = eq-eqb n m mine in
    let now : g q ≡ f q + 1 = subst (λ (z : ℕ). g z ≡ f z + 1) here more in
    one_more _ _ _ _ (ap (λ (b : Bool). if b then g q else 0) test ∙ now ∙ ap (λ (b : Bool). (if b then f q else 0) + 1) (sym test))
    (total_same m ns f g (q + 1) (λ p above below. same p (λ e. absurd (omega arith)))))
    (λ other.
    let behind : i - q ≡ suc (i - (q + 1)) = omega arith in
    let rest = total_more m ns f g (q + 1) i (omega arith) (omega arith) (sym (ap (λ (j : ℕ). get_or (n ∷ ns) j 0) behind) ∙ its) more same in
    let first : g q ≡ f q = same q (λ e. other (sym e)) in
    added _ _ _ _ 1 (ap (λ (z : ℕ). if n == m then z else 0) first) rest)

-- it is one of another's
pub total_else : (m : ℕ) (ns : List ℕ) (f g : ℕ → ℕ) (q i : ℕ) → q ≤ i → get_or ns (i - q) 0 ≢ m → ((p : ℕ) → p ≢ i → g p ≡ f p) → total_of m ns g q ≡ total_of m ns f q
total_else m [] f g q i low its same = refl
total_else m (n ∷ ns) f g q i low its same = dite (ℕ_discrete i q)
    (λ here.
    let first : i - q ≡ 0 = omega arith in
    let test : (n == m) ≡ false = ne_eqb n m (λ e. its (ap (λ (j : ℕ). get_or (n ∷ ns) j 0) first ∙ e)) in
    let rest = total_same m ns f g (q + 1) (λ p above below. same p (λ e. absurd (omega arith))) in
    let none : (if n == m then g q else 0) ≡ (if n == m then f q else 0) = ap (λ (b : Bool). if b then g q else 0) test ∙ ap (λ (b : Bool). if b then f q else 0) (sym test) in
    λ j. none j + rest j)
    (λ other.
    let behind : i - q ≡ suc (i - (q + 1)) = omega arith in
    let first : g q ≡ f q = same q (λ e. other (sym e)) in
    let rest = total_else m ns f g (q + 1) i (omega arith) (λ e. its (ap (λ (j : ℕ). get_or (n ∷ ns) j 0) behind ∙ e)) same in
    λ j. (if n == m then first j else 0) + rest j)

-- ---- points

-- how often what an access decided counts
abbrev pub told_counts : Operation → Option Reply → ℕ
told_counts op None = 0
told_counts op (Some x) = reply_counts op x

pub counts_told : (t p : ℕ) (op : Operation) (r : Option Reply) → counts_in (told t p op r) ≡ told_counts op r
counts_told t p op None = refl
counts_told t p op (Some x) = omega arith

pub counts_append : (xs ys : List Point) → counts_in (xs ++ ys) ≡ counts_in xs + counts_in ys
counts_append [] ys = omega arith
counts_append (x ∷ xs) ys = let rest = counts_append xs ys in omega arith

pub counts_more : (t p : ℕ) (op : Operation) (r : Option Reply) (xs : List Point) → counts_in (xs ++ told t p op r) ≡ counts_in xs + told_counts op r
counts_more t p op r xs = counts_append xs (told t p op r) ∙ ap (λ (n : ℕ). counts_in xs + n) (counts_told t p op r)

-- ---- the rule

pub of_mutex : (k : Layout') (q : ℕ) → IsLayout k → q < length k.conditions → mutex_at k q < k.mutexes
of_mutex k q layout low = layout.conditions.1 q 0 low

-- the counters are as they were, and this many points count as before
pub counted_same : (k : Layout') (o ws ws' : List ℕ) (js js' : List (List Point)) → IsLayout k → Counted k o ws js → ((q : ℕ) → q < length k.conditions → counter_in k ws' q ≡ counter_in k ws q)
    → ((m : ℕ) → m < k.mutexes → counts_in (at js' (cell_place k m)) ≡ counts_in (at js (cell_place k m))) → Counted k o ws' js'
counted_same k o ws ws' js js' layout h same seen = record {
  sums = λ m low. total_same m k.conditions (counter_in k ws) (counter_in k ws') 0 (λ q above below. same q (omega arith)) ∙ h.sums m low ∙ ap (λ (n : ℕ). total_of m k.conditions (λ q. get_or o q 0) 0 + n) (sym (seen m low));
  still = λ q low none. same q low ∙ h.still q low (sym (seen (mutex_at k q) (of_mutex k q layout low)) ∙ none);
}

-- one of them is one more, and so is what counts of its mutex
pub counted_more : (k : Layout') (o ws ws' : List ℕ) (js js' : List (List Point)) (q : ℕ) → IsLayout k → Counted k o ws js → q < length k.conditions → counter_in k ws' q ≡ counter_in k ws q + 1 → ((p : ℕ) → p ≢ q → counter_in k ws' p ≡ counter_in k ws p)
    → counts_in (at js' (cell_at k q)) ≡ counts_in (at js (cell_at k q)) + 1 → ((m : ℕ) → m ≢ mutex_at k q → counts_in (at js' (cell_place k m)) ≡ counts_in (at js (cell_place k m))) → Counted k o ws' js'
counted_more k o ws ws' js js' q layout h low more same counts else_same = record {
  sums = λ m inside. dite (ℕ_discrete (mutex_at k q) m)
      (λ here.
      let total = total_more m k.conditions (counter_in k ws) (counter_in k ws') 0 q (omega arith) (omega arith) (ap (λ (i : ℕ). get_or k.conditions i 0) (let e : q - 0 ≡ q = omega arith in e) ∙ here) more same in
      let was = h.sums m inside in
      let now = subst (λ (z : ℕ). counts_in (at js' (cell_place k z)) ≡ counts_in (at js (cell_place k z)) + 1) here counts in
      summed _ _ _ _ _ total was now)
      (λ other. total_else m k.conditions (counter_in k ws) (counter_in k ws') 0 q (omega arith) (λ e. other (ap (λ (i : ℕ). get_or k.conditions i 0) (let f : q ≡ q - 0 = omega arith in f) ∙ e)) same ∙ h.sums m inside ∙ ap (λ (n : ℕ). total_of m k.conditions (λ q. get_or o q 0) 0 + n) (sym (else_same m (λ e. other (sym e)))));
  still = λ p inside none. dite (ℕ_discrete (mutex_at k p) (mutex_at k q))
      (λ here. let now = subst (λ (z : ℕ). counts_in (at js' (cell_place k z)) ≡ 0) here none in absurd (omega arith))
      (λ other. same p (λ e. other (ap (mutex_at k) e)) ∙ h.still p inside (sym (else_same (mutex_at k p) other) ∙ none));
}
  where
    summed : (t u v a b : ℕ) → t ≡ u + 1 → u ≡ v + a → b ≡ a + 1 → t ≡ v + b
    summed t u v a b e f g = omega arith
