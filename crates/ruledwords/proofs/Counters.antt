-- A step at a counter, by the owner of its mutex, keeps the rule.
use Rattle.std.proofs.Common.{Bool, true, false, ◌≡◌, ◌≢◌, ⊎_elim, ℕ, zero, suc, ◌+◌, ◌-◌, ◌/◌, ◌<◌, ◌≤◌, get_or, Option, Some, None, List, [], ◌∷◌, ◌++◌, length, set, refl, sym, ap, ◌∙◌, subst, arith, length-set, get_or-set_other, get_or-set_same}
use Rattle.std.specs.Prelude.{nat_lt, if◌then◌else◌}
use Rattle.std.proofs.lemmas.Bool.Decides.{nat_tests}
use mathlib.Core.Logic.{dite}
use mathlib.Core.Option.{some, none}
use native.Mathlib.Decide.{ℕ_discrete}
use lib.ListN.{get_elem?}
use lib.Seq.{set-get_or}
use Rattle.atomic_table.specs.Table.{step, keeps, Allows}
use Rattle.atomic_table.proofs.Lists.{at_set}
use Rattle.lockword.specs.Cells.{fields_of}
use Rattle.lockword.specs.declared.reply.Reply.{Reply}
use Rattle.lockword.specs.declared.reply.Reply.TheVariants.{OK}
use Rattle.posixmutex.specs.declared.point.Operation.{Operation}
use Rattle.posixmutex.specs.declared.point.Operation.TheVariants as operation
use Rattle.posixmutex.specs.declared.point.Point.{Point}
use Rattle.memorymap.specs.Layouts.{Layout', IsLayout, cell_place, counter_place, words_of}
use Rattle.posixmutex.specs.Objects.{Run, object_of}
use Rattle.condvar.specs.Laws.{largest_counter}
use Rattle.ruledwords.specs.declared.pass.Card.{Card}
use Rattle.ruledwords.specs.Cards.{at, put, value_at, put_value, mark_at}
use Rattle.ruledwords.specs.Conditions.{looked_at_counter}
use Rattle.ruledwords.specs.Changes.{changes_at, change_of, put_changes, Writes}
use Rattle.ruledwords.specs.declared.pass.Change.{Change}
use Rattle.ruledwords.specs.Counts.{cell_at, counter_in, counts_in, mutex_at, Counted}
use Rattle.ruledwords.specs.Looks.{noted}
use Rattle.ruledwords.specs.Rules.{guard, owner_at, keeper, Fits, AllFit, Kept}
use Rattle.ruledwords.specs.Seen.{Leaves, Sees}
use Rattle.ruledwords.proofs.Changes.{recorded_change, writes_there}
use Rattle.ruledwords.proofs.Counts.{counted_same, counted_more, counts_more, of_mutex, told_counts}
use Rattle.ruledwords.proofs.Keepers.{counter_no_cell, keeper_same, other_cell}
use Rattle.ruledwords.proofs.Lists.{NoReinit, at_put, at_put_else, told, value_put, value_put_else, all_set, all_two, counted}
use Rattle.ruledwords.proofs.Looks.{kept_noted}
use Rattle.ruledwords.proofs.Moves.{St, says, leaves_more, none_where_same, sees_step, all_fit_other, begins_told, by_told, turns}

-- ---- whose a counter is

get_or_out : (ns : List ℕ) (i : ℕ) → length ns ≤ i → get_or ns i 0 ≡ 0
get_or_out [] i out = refl
get_or_out (n ∷ ns) zero out = absurd (omega arith)
get_or_out (n ∷ ns) (suc i) out = get_or_out ns i (omega arith)

-- the mutex whose owner alone writes at a place is one of the layout's
guard_inside : (k : Layout') → IsLayout k → (p : ℕ) → guard k p < k.mutexes
guard_inside k layout p = go (nat_lt p (counter_place k 0)) refl
  where
    some : 1 ≤ k.mutexes
    some = layout.mutexes.0

    of_condition : (q : ℕ) → get_or k.conditions q 0 < k.mutexes
    of_condition q = dite (ℕ_discrete (q - length k.conditions) 0)
        (λ e. dite (ℕ_discrete q (length k.conditions))
        (λ at_end. subst (λ (z : ℕ). z < k.mutexes) (sym (get_or_out k.conditions q (omega arith))) some)
        (λ before. layout.conditions.1 q 0 (omega arith)))
        (λ out. subst (λ (z : ℕ). z < k.mutexes) (sym (get_or_out k.conditions q (omega arith))) some)

    go : (b : Bool) → nat_lt p (counter_place k 0) ≡ b → (if b then (p - cell_place k 0) / 3 else get_or k.conditions (p - counter_place k 0) 0) < k.mutexes
    go true e = let below : p < counter_place k 0 = grind (arith, nat_tests) in omega arith
    go false e = of_condition (p - counter_place k 0)

counter_keeper : (k : Layout') (ws : List ℕ) (q : ℕ) → keeper k ws (counter_place k q) ≡ owner_at k ws (mutex_at k q)
counter_keeper k ws q = let here : counter_place k q - counter_place k 0 ≡ q = omega arith in grind (arith, nat_tests)

-- ---- what it counts

at_most_one : (op : Operation) (r : Option Reply) → told_counts op r ≤ 1
at_most_one op None = omega arith
at_most_one operation.Signal (Some OK) = omega arith
at_most_one operation.Signal (Some x) = omega arith
at_most_one operation.Broadcast (Some OK) = omega arith
at_most_one operation.Broadcast (Some x) = omega arith
at_most_one op (Some x) = omega arith

-- ---- the card after it

-- it saw the list xs of its mutex, found n, and the counter is v now, of which it knows these changes
abbrev pub counting : Layout' → ℕ → Card → List Point → ℕ → ℕ → List Change → Card
counting k q c xs n v zs = record {
  threads = c.threads;
  thread = c.thread;
  base = c.base;
  seen = put c.seen (cell_at k q) xs;
  misses = c.misses;
  last = c.last;
  trims = c.trims;
  counted = n;
  values = put_value c.values (counter_place k q) (Some v);
  marks = c.marks;
  changes = put_changes c.changes (counter_place k q) zs;
}

module _ (o : List ℕ) (k : Layout') (s : St) (h : Kept k o s) (id : ℕ) (c : Card) (q : ℕ) (op : Operation) (r : Option Reply) (n v : ℕ) (is : get_elem? s.views id ≡ some (c ∷ [])) (low : q < length k.conditions)
    (own : owner_at k s.words (mutex_at k q) ≡ c.thread) (run : Run (says s.words (cell_at k q)) (told c.thread (cell_at k q) op r) (says s.words (cell_at k q))) (few : v < 4294967296) (more : v ≡ counter_in k s.words q + told_counts op r) where
  abbrev m : ℕ
  m = mutex_at k q

  abbrev p : ℕ
  p = cell_at k q

  abbrev a : ℕ
  a = counter_place k q

  abbrev js : List (List Point)
  js = h.histories

  abbrev xs : List Point
  xs = at js p ++ told c.thread p op r

  abbrev ws' : List ℕ
  ws' = set s.words a v

  -- what is known of its changes
  abbrev pub zs : List Change
  zs = changes_at h.recorded.changes a ++ change_of c.thread (get_or s.words a 0) v

  abbrev pub behind : Card
  behind = counting k q c xs n v zs

  fit : Fits k s.words js c
  fit = (h.fits id (c ∷ []) is).0

  in_layout : m < k.mutexes
  in_layout = of_mutex k q h.layout low

  not_made_anew : NoReinit op r
  not_made_anew = none_where_same c.thread p op r (says s.words p) run

  within : a < length s.words
  within = subst (λ (z : ℕ). a < z) (sym h.wide) (let e : a < words_of k = omega arith in e)

  cell_same : (l : ℕ) → l < k.mutexes → get_or ws' (cell_place k l) 0 ≡ get_or s.words (cell_place k l) 0
  cell_same l lower = get_or-set_other s.words a (cell_place k l) v 0 (λ e. counter_no_cell k q l lower (sym e))

  counter_else : (x : ℕ) → x ≢ q → counter_in k ws' x ≡ counter_in k s.words x
  counter_else x other = get_or-set_other s.words a (counter_place k x) v 0 (λ e. other (omega arith))

  owner_same : (l : ℕ) → l < k.mutexes → owner_at k ws' l ≡ owner_at k s.words l
  owner_same l lower = ap (λ (w : ℕ). (fields_of w).owner) (cell_same l lower)

  keeper_stays : (x : ℕ) → keeper k ws' x ≡ keeper k s.words x
  keeper_stays x = keeper_same k s.words ws' x (owner_same (guard k x) (guard_inside k h.layout x))

  -- the place is the thread's own
  mine : keeper k s.words a ≡ c.thread
  mine = counter_keeper k s.words q ∙ own

  marked : (d : Card) → Fits k s.words js d → (l : ℕ) → l < k.mutexes → mark_at d.marks (cell_place k l) ≡ true → owner_at k ws' l ≡ d.thread → (fields_of (get_or ws' (cell_place k l) 0)).waiters ≡ true
  marked d f l lower e owned = ap (λ (w : ℕ). (fields_of w).waiters) (cell_same l lower) ∙ f.marks l lower e (sym (owner_same l lower) ∙ owned)

  fits_mine : Fits k ws' (put js p xs) behind
  fits_mine = record {
    thread = fit.thread;
    threads = fit.threads;
    begins = begins_told js c.seen p xs fit.begins;
    own = by_told c.thread js c.seen p xs fit.own;
    values = λ x y e. dite (ℕ_discrete x a)
        (λ here.
        let is : Some v ≡ Some y = sym (value_put c.values a (Some v)) ∙ subst (λ (z : ℕ). value_at (put_value c.values a (Some v)) z ≡ Some y) here e in
        let same : v ≡ y = cc in
        (ap (λ (z : ℕ). get_or ws' z 0) here ∙ get_or-set_same s.words a v 0 within ∙ same, keeper_stays x ∙ ap (keeper k s.words) here ∙ mine))
        (λ other. let was = fit.values x y (sym (value_put_else c.values a x (Some v) other) ∙ e) in (get_or-set_other s.words a x v 0 other ∙ was.0, keeper_stays x ∙ was.1));
    marks = marked c fit;
  }

  knows_else : (d : Card) → c.thread ≢ d.thread → Fits k s.words js d → ((x y : ℕ) → value_at d.values x ≡ Some y → (get_or ws' x 0 ≡ y) × (keeper k ws' x ≡ d.thread))
  knows_else d apart f x y e =
      let was = f.values x y e in
      let other : x ≢ a = λ here. apart (sym mine ∙ ap (keeper k s.words) (sym here) ∙ was.1) in
      (get_or-set_other s.words a x v 0 other ∙ was.0, keeper_stays x ∙ was.1)

  seen_counts : (l : ℕ) → l ≢ m → counts_in (at (put js p xs) (cell_place k l)) ≡ counts_in (at js (cell_place k l))
  seen_counts l other = ap counts_in (at_put_else js p (cell_place k l) xs (other_cell k m l other))

  here_counts : counts_in (at (put js p xs) p) ≡ counts_in (at js p) + told_counts op r
  here_counts = ap counts_in (at_put js p xs) ∙ counts_more c.thread p op r (at js p)

  now_here : counter_in k ws' q ≡ v
  now_here = get_or-set_same s.words a v 0 within

  counts_on : Counted k o ws' (put js p xs)
  counts_on = dite (ℕ_discrete (told_counts op r) 0)
      (λ none. counted_same k o s.words ws' js (put js p xs) h.layout h.counted
      (λ x lower. dite (ℕ_discrete x q) (λ here. ap (counter_in k ws') here ∙ now_here ∙ (let e : v ≡ counter_in k s.words q = omega arith in e) ∙ ap (counter_in k s.words) (sym here)) (counter_else x))
      (λ l lower. dite (ℕ_discrete l m)
      (λ here. subst (λ (z : ℕ). counts_in (at (put js p xs) (cell_place k z)) ≡ counts_in (at js (cell_place k z))) (sym here) (here_counts ∙ (let e : counts_in (at js p) + told_counts op r ≡ counts_in (at js p) = omega arith in e)))
      (seen_counts l)))
      (λ some_count.
      let bound = at_most_one op r in
      let one : told_counts op r ≡ 1 = omega arith in
      counted_more k o s.words ws' js (put js p xs) q h.layout h.counted low (now_here ∙ more ∙ ap (λ (z : ℕ). counter_in k s.words q + z) one) counter_else (here_counts ∙ ap (λ (z : ℕ). counts_in (at js p) + z) one) seen_counts)

  now : Leaves k.threads p xs (says s.words p)
  now = leaves_more k p c.thread (at js p) _ (says s.words p) op r fit.thread.0 fit.thread.1 not_made_anew (h.leaves m in_layout) run

  pub kept_counted : Kept k o record { words = ws'; homes = s.homes; views = set s.views id (behind ∷ []) }
  kept_counted = record {
    layout = h.layout;
    wide = length-set s.words a v ∙ h.wide;
    histories = put js p xs;
    leaves = λ l lower. dite (ℕ_discrete l m)
        (λ e. subst (λ (z : ℕ). Leaves k.threads (cell_place k z) (at (put js p xs) (cell_place k z)) (says ws' (cell_place k z))) (sym e)
        (subst (λ (z : List Point × ℕ). Leaves k.threads p z.0 (object_of (fields_of z.1))) (λ i. (sym (at_put js p xs) i, sym (cell_same m in_layout) i)) now))
        (λ other. subst (λ (z : List Point × ℕ). Leaves k.threads (cell_place k l) z.0 (object_of (fields_of z.1)))
        (λ i. (sym (at_put_else js p (cell_place k l) xs (other_cell k m l other)) i, sym (cell_same l lower) i)) (h.leaves l lower));
    legal = λ x. dite (ℕ_discrete x p)
        (λ e. (says s.words p, subst (λ (z : ℕ). Leaves k.threads z (at (put js p xs) z) (says s.words p)) (sym e) (subst (λ l. Leaves k.threads p l (says s.words p)) (sym (at_put js p xs)) now)))
        (λ other. let was = h.legal x in (was.0, subst (λ l. Leaves k.threads x l was.0) (sym (at_put_else js p x xs other)) was.1));
    narrow = λ l lower. ap (λ (w : ℕ). (fields_of w).rest) (cell_same l lower) ∙ h.narrow l lower;
    counters = λ x lower. dite (ℕ_discrete x q)
        (λ here. subst (λ (z : ℕ). counter_in k ws' z < 4294967296) (sym here) (subst (λ (z : ℕ). z < 4294967296) (sym now_here) few))
        (λ other. subst (λ (z : ℕ). z < 4294967296) (sym (counter_else x other)) (h.counters x lower));
    counted = counts_on;
    fits = λ j w e. ⊎_elim
        (λ (t : (j ≡ id) × (behind ∷ [] ≡ w)). subst (AllFit k ws' (put js p xs)) t.1 (fits_mine, tt))
        (λ (t : (j ≢ id) × (get_elem? s.views j ≡ some w)).
        let two = all_two c.thread s.views id j (c ∷ []) w is t.1 t.0 in
        let once = h.once c.thread in
        let some_card = counted c.thread c [] refl in
        all_fit_other k s.words ws' js p c.thread op r w (λ d other f. (knows_else d other f, marked d f)) (omega arith) (h.fits j w t.1))
        (at_set s.views id j (behind ∷ []) w e);
    once = λ t. let same = all_set t s.views id (c ∷ []) (behind ∷ []) is in let once = h.once t in omega arith;
    recorded = recorded_change k s.words s.views h.recorded id c behind a v (h.fits id (c ∷ []) is).0.thread is within h.once refl refl (h.recorded.count q low);
  }

  pub writes_counted : Writes c a (get_or s.words a 0) v behind
  writes_counted = let f = (h.fits id (c ∷ []) is).0 in writes_there k s.words s.views h.recorded id c behind a v f.thread f.threads (h.recorded.count q low) is refl

  pub sees_counted : Sees c p (told c.thread p op r) (says s.words p) behind
  sees_counted = let s' = sees_step k s h id c m op r (get_or s.words p 0) 0 0 [] is in_layout not_made_anew run in
      record { thread = refl; threads = refl; base = refl; elsewhere = s'.elsewhere; between = s'.between; grows = s'.grows; own = s'.own; leaves = s'.leaves }

-- ---- a look

pub counter_small : {o : List ℕ} (k : Layout') (s : St) (h : Kept k o s) (q : ℕ) → q < length k.conditions → counter_in k s.words q ≤ largest_counter
counter_small k s h q low = let few = h.counters q low in omega arith

-- by which nothing new is seen
pub looks_at_counter : {o : List ℕ} (k : Layout') (slots id : ℕ) (c : Card) (q : ℕ) → q < length k.conditions
    → Allows (Kept k o) slots id (c ∷ [], []) (counter_place k q) (λ n. n) (looked_at_counter (step slots (counter_place k q) 0 0 none) (c ∷ [], []))
looks_at_counter {o} k slots id c q low s h deep is small =
    let a : ℕ = counter_place k q in
    let n : ℕ = get_or s.words a 0 in
    let f = (h.fits id (c ∷ []) is).0 in
    let d : Card = noted c n c.trims c.changes in (
      d ∷ [],
      keeps,
      tt,
      subst (λ (z : List ℕ). Kept k o record { words = z; homes = s.homes; views = set s.views id (d ∷ []) }) (sym (set-get_or s.words a 0)) (kept_noted k s h id c n c.trims is),
      turns c d (λ c d. (d ≡ noted c n c.trims c.changes) × (n ≤ largest_counter) × ((x : ℕ) → value_at c.values a ≡ Some x → n ≡ x)) (refl, counter_small k s h q low, λ x e. (f.values a x e).0),
    )
