-- Loads and stores of a thread's own words keep the rule.
use Rattle.std.proofs.Common.{true, ◌≡◌, ◌≢◌, inl, inr, ⊎_elim, ℕ, ◌<◌, ◌≤◌, Some, List, [], ◌∷◌, length, get_or, set, refl, sym, ap, ◌∙◌, subst, arith, length-set, get_or-set_other, get_or-set_same}
use mathlib.Core.Logic.{dite}
use mathlib.Core.Option.{some, none}
use native.Mathlib.Decide.{ℕ_discrete}
use lib.ListN.{get_elem?}
use lib.Seq.{set-get_or}
use Rattle.atomic_table.specs.Table.{step, keeps, Allows}
use Rattle.atomic_table.proofs.Lists.{at_set, set_again}
use Rattle.lockword.specs.Cells.{fields_of}
use Rattle.memorymap.specs.Layouts.{Layout', cell_place, counter_place, words_of}
use Rattle.posixmutex.specs.Objects.{object_of}
use Rattle.ruledwords.specs.declared.pass.Card.{Card}
use Rattle.ruledwords.specs.Cards.{at, value_at, put_value, mark_at}
use Rattle.ruledwords.specs.Seen.{holds, Leaves}
use Rattle.ruledwords.specs.Rules.{guard, owner_at, keeper, Fits, AllFit, cards_of, Kept}
use Rattle.ruledwords.specs.OwnWords.{IsOwn, knowing, stored, recalled}
use Rattle.ruledwords.proofs.Lists.{value_put, value_put_else, all_two, all_set, counted}
use Rattle.ruledwords.proofs.Changes.{recorded_set, recorded_words}
use Rattle.ruledwords.proofs.Counts.{counted_same}
use Rattle.ruledwords.proofs.Keepers.{head_keeper, link_keeper, keeper_same, inside}
use Rattle.ruledwords.proofs.Moves.{St, Knowing, owner_is, card_or, turns}
use Rattle.ruledwords.proofs.Steps.{holder}

-- ---- whose it is

-- what a thread holds it owns
pub owns_held : {o : List ℕ} (k : Layout') (s : St) (h : Kept k o s) (c : Card) (m : ℕ) → m < k.mutexes → Fits k s.words h.histories c → holds c.thread (at c.seen (cell_place k m)) ≡ true → owner_at k s.words m ≡ c.thread
owns_held k s h c m low f held =
    let p : ℕ = cell_place k m in
    let n : ℕ = get_or s.words p 0 in
    let known : Knowing k c p n = record { xs = at h.histories p; leaves = h.leaves m low; begins = f.begins p; own = f.own p; thread = (f.thread.0, f.thread.1, h.layout.threads.1); narrow = h.narrow m low; mark = f.marks m low } in
    owner_is c.thread (fields_of n).owner (sym (holder k c p n known) ∙ held)

own_keeper : {o : List ℕ} (k : Layout') (s : St) (h : Kept k o s) (c : Card) (p : ℕ) → Fits k s.words h.histories c → IsOwn k c p → keeper k s.words p ≡ c.thread
own_keeper k s h c p f (inl e) = head_keeper k s.words c.thread p f.thread.0 f.thread.1 (omega (arith, e)) (omega (arith, e))
own_keeper k s h c p f (inr (inl e)) = head_keeper k s.words c.thread p f.thread.0 f.thread.1 (omega (arith, e)) (omega (arith, e))
own_keeper k s h c p f (inr (inr (m, low, link, held))) = link_keeper k s.words m p low link ∙ owns_held k s h c m low f held

-- it is no cell and no counter, and there is such a word
pub own_place : (k : Layout') (c : Card) (p : ℕ) → (1 ≤ c.thread) × (c.thread ≤ k.threads) → IsOwn k c p → ((l : ℕ) → cell_place k l ≢ p) × ((q : ℕ) → counter_place k q ≢ p) × (p < words_of k)
own_place k c p low (inl e) = let a = low.0 in let b = low.1 in ((λ l f. absurd (omega arith)), (λ q f. absurd (omega arith)), omega arith)
own_place k c p low (inr (inl e)) = let a = low.0 in let b = low.1 in ((λ l f. absurd (omega arith)), (λ q f. absurd (omega arith)), omega arith)
own_place k c p low (inr (inr (m, inside, inl e, held))) = ((λ l f. absurd (omega arith)), (λ q f. absurd (omega arith)), omega arith)
own_place k c p low (inr (inr (m, inside, inr e, held))) = ((λ l f. absurd (omega arith)), (λ q f. absurd (omega arith)), omega arith)

-- ---- a store

module _ {o : List ℕ} (k : Layout') (s : St) (h : Kept k o s) (c : Card) (p v : ℕ) (f : Fits k s.words h.histories c) (own : IsOwn k c p) where
  abbrev pub ws' : List ℕ
  ws' = set s.words p v

  no_cell : (l : ℕ) → cell_place k l ≢ p
  no_cell = (own_place k c p f.thread own).0

  cell_same : (l : ℕ) → get_or ws' (cell_place k l) 0 ≡ get_or s.words (cell_place k l) 0
  cell_same l = get_or-set_other s.words p (cell_place k l) v 0 (no_cell l)

  owner_same : (l : ℕ) → owner_at k ws' l ≡ owner_at k s.words l
  owner_same l = ap (λ (n : ℕ). (fields_of n).owner) (cell_same l)

  keeper_stays : (q : ℕ) → keeper k ws' q ≡ keeper k s.words q
  keeper_stays q = keeper_same k s.words ws' q (owner_same (guard k q))

  marked : (d : Card) → Fits k s.words h.histories d → (l : ℕ) → l < k.mutexes → mark_at d.marks (cell_place k l) ≡ true → owner_at k ws' l ≡ d.thread → (fields_of (get_or ws' (cell_place k l) 0)).waiters ≡ true
  marked d g l low e owned = ap (λ (n : ℕ). (fields_of n).waiters) (cell_same l) ∙ g.marks l low e (sym (owner_same l) ∙ owned)

  fits_stored : Fits k ws' h.histories (knowing c p v)
  fits_stored = record {
    thread = f.thread;
    threads = f.threads;
    begins = f.begins;
    own = f.own;
    values = λ q x e. dite (ℕ_discrete q p)
        (λ here.
        let is : Some v ≡ Some x = sym (value_put c.values p (Some v)) ∙ subst (λ (z : ℕ). value_at (put_value c.values p (Some v)) z ≡ Some x) here e in
        let same : v ≡ x = cc in
        let within : p < length s.words = subst (λ (z : ℕ). p < z) (sym h.wide) (own_place k c p f.thread own).2 in
        (ap (λ (z : ℕ). get_or ws' z 0) here ∙ get_or-set_same s.words p v 0 within ∙ same, keeper_stays q ∙ ap (keeper k s.words) here ∙ own_keeper k s h c p f own))
        (λ other. let was = f.values q x (sym (value_put_else c.values p q (Some v) other) ∙ e) in (get_or-set_other s.words p q v 0 other ∙ was.0, keeper_stays q ∙ was.1));
    marks = marked c f;
  }

  fits_beside : (d : Card) → c.thread ≢ d.thread → Fits k s.words h.histories d → Fits k ws' h.histories d
  fits_beside d apart g = record {
    thread = g.thread;
    threads = g.threads;
    begins = g.begins;
    own = g.own;
    values = λ q x e.
        let was = g.values q x e in
        let other : q ≢ p = λ here. apart (sym (own_keeper k s h c p f own) ∙ ap (keeper k s.words) (sym here) ∙ was.1) in
        (get_or-set_other s.words p q v 0 other ∙ was.0, keeper_stays q ∙ was.1);
    marks = marked d g;
  }

  all_beside : (cs : List Card) → cards_of c.thread cs ≡ 0 → AllFit k s.words h.histories cs → AllFit k ws' h.histories cs
  all_beside [] nobody g = tt
  all_beside (d ∷ cs) nobody g =
      let apart : c.thread ≢ d.thread = λ e. let some_card = counted c.thread d cs e in absurd (omega arith) in
      (fits_beside d apart g.0, all_beside cs (omega arith) g.1)

  pub kept_stored : (id : ℕ) → get_elem? s.views id ≡ some (c ∷ []) → Kept k o record { words = ws'; homes = s.homes; views = set s.views id (knowing c p v ∷ []) }
  kept_stored id is = record {
    layout = h.layout;
    wide = length-set s.words p v ∙ h.wide;
    histories = h.histories;
    leaves = λ l low. subst (λ (n : ℕ). Leaves k.threads (cell_place k l) (at h.histories (cell_place k l)) (object_of (fields_of n))) (sym (cell_same l)) (h.leaves l low);
    legal = h.legal;
    narrow = λ l low. ap (λ (n : ℕ). (fields_of n).rest) (cell_same l) ∙ h.narrow l low;
    counters = λ q low. subst (λ (n : ℕ). n < 4294967296) (sym (get_or-set_other s.words p (counter_place k q) v 0 ((own_place k c p f.thread own).1 q))) (h.counters q low);
    counted = counted_same k o s.words ws' h.histories h.histories h.layout h.counted (λ q low. get_or-set_other s.words p (counter_place k q) v 0 ((own_place k c p f.thread own).1 q)) (λ l low. refl);
    fits = λ j w e. ⊎_elim
        (λ (t : (j ≡ id) × (knowing c p v ∷ [] ≡ w)). subst (AllFit k ws' h.histories) t.1 (fits_stored, tt))
        (λ (t : (j ≢ id) × (get_elem? s.views j ≡ some w)).
        let two = all_two c.thread s.views id j (c ∷ []) w is t.1 t.0 in
        let once = h.once c.thread in
        let mine = counted c.thread c [] refl in
        all_beside w (omega arith) (h.fits j w t.1))
        (at_set s.views id j (knowing c p v ∷ []) w e);
    once = λ t. let same = all_set t s.views id (c ∷ []) (knowing c p v ∷ []) is in let once = h.once t in omega arith;
    recorded = recorded_words k s.words ws' (set s.views id (knowing c p v ∷ [])) (λ l low. cell_same l) (λ q low. get_or-set_other s.words p (counter_place k q) v 0 ((own_place k c p f.thread own).1 q)) (recorded_set k s.words s.views id (c ∷ []) (knowing c p v ∷ []) is h.recorded (λ f. f));
  }

-- a store at an own place
pub stores : {o : List ℕ} (k : Layout') (slots id : ℕ) (c : Card) (p v : ℕ) → IsOwn k c p → Allows (Kept k o) slots id (c ∷ [], []) p (λ n. v) (λ n. stored (step slots p v 0 none) (c ∷ [], []) v)
stores k slots id c p v own s h deep is small =
    let f = (h.fits id (c ∷ []) is).0 in
    (knowing c p v ∷ [], keeps, tt, kept_stored k s h c p v f own id is, turns c (knowing c p v) (λ c d. d ≡ knowing c p v) refl)

-- a load of a word that the thread may know
pub recalls : {o : List ℕ} (k : Layout') (slots id : ℕ) (c : Card) (p : ℕ) → Allows (Kept k o) slots id (c ∷ [], []) p (λ n. n) (recalled (step slots p 0 0 none) (c ∷ [], []))
recalls {o} k slots id c p s h deep is small =
    let f = (h.fits id (c ∷ []) is).0 in (
      c ∷ [],
      keeps,
      tt,
      subst (λ (z : List ℕ × List (List Card)). Kept k o record { words = z.0; homes = s.homes; views = z.1 }) (λ i. (sym (set-get_or s.words p 0) i, sym (set_again s.views id (c ∷ []) is) i)) h,
      λ d e. (e, λ x known. (f.values p x (subst (λ (z : Card). value_at z.values p ≡ Some x) (sym (ap (card_or c) e)) known)).0),
    )
