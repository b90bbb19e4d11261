-- Cards that are dealt and gathered, and the first and the last words.
use Rattle.std.proofs.Common.{Bool, true, false, ◌≡◌, ◌≢◌, ⊎_elim, ℕ, zero, suc, ◌+◌, ◌-◌, ◌<◌, ◌≤◌, ◌==◌, Option, Some, List, [], ◌∷◌, ◌++◌, length, get_or, set, drop, refl, sym, ap, ◌∙◌, subst, arith, eq-eqb, ne_eqb, length-drop}
use Rattle.std.specs.Prelude.{◌%◌, if◌then◌else◌, slice_index}
use Rattle.std.proofs.lemmas.Bool.Decides.{nat_tests}
use Rattle.std.proofs.lemmas.List.{ext_get_or, get_or-drop}
use mathlib.Core.Logic.{dite}
use mathlib.Core.Option.{some, none, some-ne-none, some-injective}
use native.Mathlib.Decide.{ℕ_discrete}
use lib.ListN.{get_elem?}
use lib.Seq.{set-get_or}
use Rattle.atomic_table.specs.Table.{step, keeps, Allows, Splits, Joins, Final, Seen, opening}
use Rattle.atomic_table.proofs.Lists.{at_set, at_snoc}
use Rattle.lockword.specs.Cells.{fields_of}
use Rattle.posixmutex.specs.declared.object.Object.{Object}
use Rattle.posixmutex.specs.declared.point.Point.{Point}
use Rattle.memorymap.specs.Layouts.{Layout', IsLayout, head_place, cell_place, counter_place, words_of, address_in, thread_of, cell_offset, head_word}
use Rattle.posixmutex.specs.Objects.{fresh, object_of}
use Rattle.ruledwords.specs.declared.pass.Card.{Card}
use Rattle.ruledwords.specs.declared.pass.Change.{Change}
use Rattle.ruledwords.specs.Cards.{at, value_at, put_value}
use Rattle.ruledwords.specs.Changes.{AllTied}
use Rattle.ruledwords.specs.Counts.{counter_in, total_of, Counted}
use Rattle.ruledwords.specs.Seen.{Leaves, Joined, AreExclusive, holds, held, held_after}
use Rattle.ruledwords.specs.Rules.{opening_word, first_values, first_known, first_card, hand, Fits, AllFit, cards_of, Kept, first_of, rest_of, met, IsAmong, Ends}
use Rattle.ruledwords.proofs.Changes.{authored_behind, left_at_first, left_before, recorded_dealt, recorded_set, tied_append, tied_self}
use Rattle.ruledwords.proofs.Counts.{total_same}
use Rattle.ruledwords.proofs.Lists.{prefix_self, value_put, value_put_else, all_one, all_set, all_append, cards_append, one_or_none}
use Rattle.ruledwords.proofs.Held.{count_same, owner_held, owns, owns_one}
use Rattle.ruledwords.proofs.Keepers.{head_keeper}
use Rattle.ruledwords.proofs.Moves.{St, Sat}

fit_append : (k : Layout') (ws : List ℕ) (js : List (List Point)) (cs ds : List Card) → AllFit k ws js cs → AllFit k ws js ds → AllFit k ws js (cs ++ ds)
fit_append k ws js [] ds f g = g
fit_append k ws js (c ∷ cs) ds f g = (f.0, fit_append k ws js cs ds f.1 g)

fit_first : (k : Layout') (ws : List ℕ) (js : List (List Point)) (cs : List Card) → AllFit k ws js cs → AllFit k ws js (first_of cs)
fit_first k ws js [] f = tt
fit_first k ws js (c ∷ cs) f = (f.0, tt)

fit_rest : (k : Layout') (ws : List ℕ) (js : List (List Point)) (cs : List Card) → AllFit k ws js cs → AllFit k ws js (rest_of cs)
fit_rest k ws js [] f = tt
fit_rest k ws js (c ∷ cs) f = f.1

cut_cards : (t : ℕ) (cs : List Card) → cards_of t (rest_of cs) + cards_of t (first_of cs) ≡ cards_of t cs
cut_cards t [] = omega arith
cut_cards t (c ∷ cs) = omega arith

tied_cut : (n : ℕ) (cs : List Card) (xs : List (List Change)) → AllTied n xs cs → AllTied n xs (rest_of cs) × AllTied n xs (first_of cs)
tied_cut n [] xs f = (tt, tt)
tied_cut n (c ∷ cs) xs f = (f.1, (f.0, tt))

-- the first card is dealt
pub deals : {o : List ℕ} (k : Layout') (id : ℕ) (v : List Card) → Splits (Kept k o) id v (rest_of v) (first_of v)
deals k id v s h is = record {
  layout = h.layout;
  wide = h.wide;
  histories = h.histories;
  leaves = h.leaves;
  legal = h.legal;
  narrow = h.narrow;
  counters = h.counters;
  counted = h.counted;
  fits = λ j w e. ⊎_elim
      (λ (was : get_elem? (set s.views id (rest_of v)) j ≡ some w). ⊎_elim
      (λ (t : (j ≡ id) × (rest_of v ≡ w)). subst (AllFit k s.words h.histories) t.1 (fit_rest k s.words h.histories v (h.fits id v is)))
      (λ (t : (j ≢ id) × (get_elem? s.views j ≡ some w)). h.fits j w t.1)
      (at_set s.views id j (rest_of v) w was))
      (λ (same : first_of v ≡ w). subst (AllFit k s.words h.histories) same (fit_first k s.words h.histories v (h.fits id v is)))
      (at_snoc (set s.views id (rest_of v)) (first_of v) w j e);
  once = λ t. let a = all_append t (set s.views id (rest_of v)) (first_of v ∷ []) in let b = all_set t s.views id v (rest_of v) is in let c = cut_cards t v in let d = h.once t in omega arith;
  recorded = recorded_dealt k s.words s.views id v (rest_of v) (first_of v) is (tied_cut k.threads v) h.recorded;
}

-- two seats' cards come to one
pub gathers : {o : List ℕ} (k : Layout') (id : ℕ) (v : List Card) (other : ℕ) (w : List Card) → Joins (Kept k o) id v other w (v ++ w) []
gathers k id v other w s h is apart there =
    let theirs : get_elem? s.views other ≡ some w = ⊎_elim (λ (t : (other ≡ id) × ((v ++ w) ≡ w)). absurd (apart t.0)) (λ (t : (other ≢ id) × (get_elem? s.views other ≡ some w)). t.1) (at_set s.views id other (v ++ w) w there) in
    record {
      layout = h.layout;
      wide = h.wide;
      histories = h.histories;
      leaves = h.leaves;
      legal = h.legal;
      narrow = h.narrow;
      counters = h.counters;
      counted = h.counted;
      fits = λ j u e. ⊎_elim
          (λ (t : (j ≡ other) × ([] ≡ u)). subst (AllFit k s.words h.histories) t.1 tt)
          (λ (t : (j ≢ other) × (get_elem? (set s.views id (v ++ w)) j ≡ some u)). ⊎_elim
          (λ (x : (j ≡ id) × ((v ++ w) ≡ u)). subst (AllFit k s.words h.histories) x.1 (fit_append k s.words h.histories v w (h.fits id v is) (h.fits other w theirs)))
          (λ (x : (j ≢ id) × (get_elem? s.views j ≡ some u)). h.fits j u x.1)
          (at_set s.views id j (v ++ w) u t.1))
          (at_set (set s.views id (v ++ w)) other j [] u e);
      once = λ t. let a = all_set t s.views id v (v ++ w) is in let b = all_set t (set s.views id (v ++ w)) other w [] there in let c = cards_append t v w in let d = h.once t in omega arith;
      recorded = recorded_set k s.words (set s.views id (v ++ w)) other w [] there
          (recorded_set k s.words s.views id v (v ++ w) is h.recorded (λ f. tied_append k.threads h.recorded.changes v w f (h.recorded.tied other w theirs)))
          (λ f. tt);
    }

abbrev seeing : Card → List (List Point) → Card
seeing c js = record c { seen = js }

fits_all : (k : Layout') (ws : List ℕ) (js : List (List Point)) (c : Card) → Fits k ws js c → Fits k ws js (seeing c js)
fits_all k ws js c f = record { thread = f.thread; threads = f.threads; begins = λ p. prefix_self (at js p); own = λ p. refl; values = f.values; marks = f.marks }

abbrev card_first : Card → Sat → Card
card_first d (x ∷ xs, ys) = x
card_first d ([], ys) = d

abbrev card_second : Card → Sat → Card
card_second d (x ∷ y ∷ xs, ys) = y
card_second d (x ∷ [], ys) = d
card_second d ([], ys) = d

-- cards of one thread are two
two_cards : (c d : Card) → c.thread ≡ d.thread → 2 ≤ cards_of c.thread (c ∷ d ∷ [])
two_cards c d same =
    let one : if◌then◌else◌ {A = ℕ} (c.thread == c.thread) 1 0 ≡ 1 = ap (λ (b : Bool). if◌then◌else◌ {A = ℕ} b 1 0) (eq-eqb c.thread c.thread refl) in
    let two : if◌then◌else◌ {A = ℕ} (d.thread == c.thread) 1 0 ≡ 1 = ap (λ (b : Bool). if◌then◌else◌ {A = ℕ} b 1 0) (eq-eqb d.thread c.thread (sym same)) in
    omega arith

-- two cards that look see all that has happened
pub meets : {o : List ℕ} (k : Layout') (slots id i : ℕ) (c d : Card) → Allows (Kept k o) slots id (c ∷ d ∷ [], []) i (λ n. n) (met (step slots i 0 0 none) (c ∷ d ∷ [], []))
meets {o} k slots id i c d s h deep is small =
    let js = h.histories in
    let f = h.fits id (c ∷ d ∷ []) is in
    let c' = seeing c js in
    let d' = seeing d js in
    let words = set-get_or s.words i 0 in (
      c' ∷ d' ∷ [],
      keeps,
      tt,
      subst (λ (ws : List ℕ). Kept k o record { words = ws; homes = s.homes; views = set s.views id (c' ∷ d' ∷ []) }) (sym words) record {
        layout = h.layout;
        wide = h.wide;
        histories = js;
        leaves = h.leaves;
        legal = h.legal;
        narrow = h.narrow;
        counters = h.counters;
        counted = h.counted;
        fits = λ j w e. ⊎_elim
            (λ (t : (j ≡ id) × (c' ∷ d' ∷ [] ≡ w)). subst (AllFit k s.words js) t.1 (fits_all k s.words js c f.0, (fits_all k s.words js d f.1.0, tt)))
            (λ (t : (j ≢ id) × (get_elem? s.views j ≡ some w)). h.fits j w t.1)
            (at_set s.views id j (c' ∷ d' ∷ []) w e);
        once = λ t. let a = all_set t s.views id (c ∷ d ∷ []) (c' ∷ d' ∷ []) is in let b = h.once t in omega arith;
        recorded = recorded_set k s.words s.views id (c ∷ d ∷ []) (c' ∷ d' ∷ []) is h.recorded (λ f. f);
      },
      λ x y e. (
        c',
        d',
        refl,
        subst (λ (z : Card × Card). Joined z.0 z.1 c' d') (λ i. (card_first c (e i), card_second d (e i))) record {
          seen = js;
          apart = λ same. let both = two_cards c d same in let all = all_one c.thread s.views id (c ∷ d ∷ []) is in let once = h.once c.thread in absurd (omega arith);
          first = refl;
          second = refl;
          legal = λ p. let l = h.legal p in (l.0, subst (λ (n : ℕ). Leaves n p (at js p) l.0) (sym f.0.threads) l.1);
          begins = λ p. (f.0.begins p, f.1.0.begins p);
          own = λ p. (sym (f.0.own p), sym (f.1.0.own p));
        },
      ),
    )

-- ---- the end

all_among : (k : Layout') (ws : List ℕ) (js : List (List Point)) (cs : List Card) → AllFit k ws js cs → (i : ℕ) (d : Card) → i < length cs → IsAmong js (get_or cs i d)
all_among k ws js [] f i d low = absurd (omega arith)
all_among k ws js (c ∷ cs) f zero d low = record { begins = f.0.begins; own = λ p. sym (f.0.own p) }
all_among k ws js (c ∷ cs) f (suc i) d low = all_among k ws js cs f.1 i d (omega arith)

kept_ends : (k : Layout') (o words : List ℕ) (s : St) (h : Kept k o s) (cards : List Card) → s.words ≡ words → AllFit k s.words h.histories cards → AllTied k.threads h.recorded.changes cards → Ends k o cards words
kept_ends k o words s h cards same fit tied = record {
  histories = h.histories;
  leaves = λ m low. subst (λ (ws : List ℕ). Leaves k.threads (cell_place k m) (at h.histories (cell_place k m)) (object_of (fields_of (get_or ws (cell_place k m) 0)))) same (h.leaves m low);
  narrow = λ m low. subst (λ (ws : List ℕ). (fields_of (get_or ws (cell_place k m) 0)).rest ≡ 0) same (h.narrow m low);
  counted = subst (λ (ws : List ℕ). Counted k o ws h.histories) same h.counted;
  changes = h.recorded.changes;
  count = λ q low. h.recorded.count q low ∙ ap (λ (ws : List ℕ). get_or ws (counter_place k q) 0) same;
  authors = h.recorded.authors;
  tied = tied;
  among = all_among k s.words h.histories cards fit;
}

-- the last words, of which these cards' seat was there
pub ends : (k : Layout') (o : List ℕ) (id : ℕ) (cards : List Card) (words : List ℕ) (xs : List (Unit {0})) → Final (Seen (Kept k o) id cards) words xs → Ends k o cards words
ends k o id cards words xs (s, seen, same, deep, homes) = kept_ends k o words s seen.0 cards same (seen.0.fits id cards seen.1) (seen.0.recorded.tied id cards seen.1)

-- and where nobody's was
pub ends_alone : (k : Layout') (o words : List ℕ) (xs : List (Unit {0})) → Final (Kept k o) words xs → Ends k o [] words
ends_alone k o words xs (s, h, same, deep, homes) = kept_ends k o words s h [] same tt tt

-- ---- the beginning

none_below : (a : Layout') (o : List ℕ) (u t n : ℕ) → u < t → cards_of u (hand a o t n) ≡ 0
none_below a o u t zero low = refl
none_below a o u t (suc n) low = let r = none_below a o u (t + 1) n (omega arith) in one_or_none u t (hand a o (t + 1) n) a o (omega arith) r

hand_once : (a : Layout') (o : List ℕ) (u t n : ℕ) → cards_of u (hand a o t n) ≤ 1
hand_once a o u t zero = omega arith
hand_once a o u t (suc n) = elim (ℕ_discrete t u) [
  | yes e ↦ (let r = none_below a o u (t + 1) n (omega arith) in let b : if◌then◌else◌ {A = ℕ} (t == u) 1 0 ≤ 1 = bit_le (t == u) in omega arith)
  | no ne ↦ (let r = hand_once a o u (t + 1) n in let b : if◌then◌else◌ {A = ℕ} (t == u) 1 0 ≡ 0 = ap (λ (b : Bool). if◌then◌else◌ {A = ℕ} b 1 0) (ne_eqb t u ne) in omega arith)
]
  where
    bit_le : (b : Bool) → if◌then◌else◌ {A = ℕ} b 1 0 ≤ 1
    bit_le true = omega arith
    bit_le false = omega arith

-- the words before the first step
abbrev pub Opens : Layout' → List ℕ → List ℕ → Type 0
Opens k counters ws = (length ws ≡ words_of k) × ((p : ℕ) → p < words_of k → slice_index ws p ≡ opening_word k counters p)

head_first : (k : Layout') (counters : List ℕ) (p : ℕ) → p < cell_place k 0 → opening_word k counters p ≡ head_word k p
head_first k counters p low = grind (arith, nat_tests)

cell_first : (k : Layout') (counters : List ℕ) (m : ℕ) → m < k.mutexes → opening_word k counters (cell_place k m) ≡ 0
cell_first k counters m low = grind (arith, nat_tests)

counter_first : (k : Layout') (counters : List ℕ) (q : ℕ) → q < length k.conditions → opening_word k counters (counter_place k q) ≡ slice_index counters q
counter_first k counters q low = grind (arith, nat_tests)

-- a head's words, by which of the three they are
abbrev by_word : Layout' → ℕ → Bool → Bool → ℕ
by_word k p first second = if first then address_in k (thread_of p) p else if second then cell_offset else 0

first_entry : (k : Layout') (t : ℕ) → 1 ≤ t → head_word k (head_place t) ≡ address_in k t (head_place t)
first_entry k t pos =
    let is : (head_place t % 3 == 1) ≡ true = grind (arith, nat_tests) in
    let mine : thread_of (head_place t) ≡ t = omega arith in
    ap (λ (b : Bool). by_word k (head_place t) b (head_place t % 3 == 2)) is ∙ ap (λ (u : ℕ). address_in k u (head_place t)) mine

first_offset : (k : Layout') (t : ℕ) → 1 ≤ t → head_word k (head_place t + 1) ≡ cell_offset
first_offset k t pos =
    let not_first : ((head_place t + 1) % 3 == 1) ≡ false = grind (arith, nat_tests) in
    let is : ((head_place t + 1) % 3 == 2) ≡ true = grind (arith, nat_tests) in
    λ i. by_word k (head_place t + 1) (not_first i) (is i)

first_pending : (k : Layout') (t : ℕ) → 1 ≤ t → head_word k (head_place t + 2) ≡ 0
first_pending k t pos =
    let not_first : ((head_place t + 2) % 3 == 1) ≡ false = grind (arith, nat_tests) in
    let not_second : ((head_place t + 2) % 3 == 2) ≡ false = grind (arith, nat_tests) in
    λ i. by_word k (head_place t + 2) (not_first i) (not_second i)

value_none : (p x : ℕ) → value_at [] p ≡ Some x → ⊥
value_none p x e = cc

-- what a thread knows of its head is so
head_known : (k : Layout') (t p x : ℕ) → 1 ≤ t → value_at (first_values k t) p ≡ Some x → (head_place t ≤ p) × (p < head_place t + 3) × (head_word k p ≡ x)
head_known k t p x pos e =
    let h : ℕ = head_place t in
    let own : ℕ = address_in k t h in
    let one : List (Option ℕ) = put_value [] h (Some own) in
    let two : List (Option ℕ) = put_value one (h + 1) (Some cell_offset) in
    dite (ℕ_discrete p (h + 2))
    (λ here. let is : Some 0 ≡ Some x = sym (value_put two (h + 2) (Some 0)) ∙ subst (λ (z : ℕ). value_at (put_value two (h + 2) (Some 0)) z ≡ Some x) here e in let x0 : 0 ≡ x = cc in
    (omega arith, omega arith, ap (head_word k) here ∙ first_pending k t pos ∙ x0))
    (λ not2. let e2 : value_at two p ≡ Some x = sym (value_put_else two (h + 2) p (Some 0) not2) ∙ e in
    dite (ℕ_discrete p (h + 1))
    (λ here. let is : Some cell_offset ≡ Some x = sym (value_put one (h + 1) (Some cell_offset)) ∙ subst (λ (z : ℕ). value_at two z ≡ Some x) here e2 in let x1 : cell_offset ≡ x = cc in
    (omega arith, omega arith, ap (head_word k) here ∙ first_offset k t pos ∙ x1))
    (λ not1. let e1 : value_at one p ≡ Some x = sym (value_put_else one (h + 1) p (Some cell_offset) not1) ∙ e2 in
    dite (ℕ_discrete p h)
    (λ here. let is : Some own ≡ Some x = sym (value_put [] h (Some own)) ∙ subst (λ (z : ℕ). value_at one z ≡ Some x) here e1 in let xh : own ≡ x = cc in
    (omega arith, omega arith, ap (head_word k) here ∙ first_entry k t pos ∙ xh))
    (λ not0. absurd (value_none p x (sym (value_put_else [] h p (Some own) not0) ∙ e1)))))

first_fits : (k : Layout') (counters ws : List ℕ) (t : ℕ) → Opens k counters ws → 1 ≤ t → t ≤ k.threads → Fits k ws [] (first_card k counters t)
first_fits k counters ws t opens pos low = record {
  thread = (pos, low);
  threads = refl;
  begins = λ p. prefix_self [];
  own = λ p. refl;
  values = λ p x e.
      let known = head_known k t p x pos e in
      let from = known.0 in
      let to = known.1 in
      let before : p < cell_place k 0 = omega arith in
      (opens.1 p (omega arith) ∙ head_first k counters p before ∙ known.2, head_keeper k ws t p pos low from to);
  marks = λ m lower e own. absurd (cc e);
}

hand_fits : (k : Layout') (counters ws : List ℕ) (n t : ℕ) → Opens k counters ws → 1 ≤ t → t + n ≤ k.threads + 1 → AllFit k ws [] (hand k counters t n)
hand_fits k counters ws zero t opens pos most = tt
hand_fits k counters ws (suc n) t opens pos most = (first_fits k counters ws t opens pos (omega arith), hand_fits k counters ws n (t + 1) opens (omega arith) (omega arith))

pub opens_kept : (k : Layout') (counters ws : List ℕ) → IsLayout k → ((q : ℕ) → slice_index counters q < 4294967296) → Opens k counters ws → Kept k counters (opening ws [] (hand k counters 1 k.threads))
opens_kept k counters ws layout small opens = record {
  layout = layout;
  wide = opens.0;
  histories = [];
  leaves = λ m low. (ap (λ (v : ℕ). object_of (fields_of v)) (zero_word m low), tt);
  legal = λ p. (fresh, (refl, tt));
  narrow = λ m low. ap (λ (v : ℕ). (fields_of v).rest) (zero_word m low);
  counted = record {
    sums = λ m low. total_same m k.conditions (λ q. get_or counters q 0) (counter_in k ws) 0 (λ q above below. began q (omega arith)) ∙ (let none : total_of m k.conditions (λ q. get_or counters q 0) 0 ≡ total_of m k.conditions (λ q. get_or counters q 0) 0 + 0 = omega arith in none);
    still = λ q low none. began q low;
  };
  counters = λ q low. let is : slice_index ws (counter_place k q) ≡ slice_index counters q = opens.1 (counter_place k q) (omega arith) ∙ counter_first k counters q low in subst (λ (z : ℕ). z < 4294967296) (sym is) (small q);
  fits = λ j v e. only j v e;
  once = λ t. let a = hand_once k counters t 1 k.threads in omega arith;
  recorded = record {
    changes = first_known k counters;
    leave = λ m low. left_before (counter_place k 0) _ (cell_place k m) (omega arith) ∙ sym (zero_word m low);
    count = λ q low. left_at_first (counter_place k 0) counters q (counter_place k q) (omega arith) ∙ sym (began q low);
    authors = authored_behind k.threads (counter_place k 0) counters;
    tied = λ j v e. tied_first j v e;
  };
}
  where
    zero_word : (m : ℕ) → m < k.mutexes → slice_index ws (cell_place k m) ≡ 0
    zero_word m low = opens.1 (cell_place k m) (omega arith) ∙ cell_first k counters m low

    began : (q : ℕ) → q < length k.conditions → counter_in k ws q ≡ get_or counters q 0
    began q low = opens.1 (counter_place k q) (omega arith) ∙ counter_first k counters q low

    tied_hand : (t n : ℕ) → AllTied k.threads (first_known k counters) (hand k counters t n)
    tied_hand t zero = tt
    tied_hand t (suc n) = (tied_self k.threads (first_known k counters) t, tied_hand (t + 1) n)

    tied_first : (j : ℕ) (v : List Card) → get_elem? (hand k counters 1 k.threads ∷ []) j ≡ some v → AllTied k.threads (first_known k counters) v
    tied_first zero v e = subst (AllTied k.threads (first_known k counters)) (some-injective _ _ e) (tied_hand 1 k.threads)
    tied_first (suc j) v e = absurd (some-ne-none v (sym e))

    only : (j : ℕ) (v : List Card) → get_elem? (hand k counters 1 k.threads ∷ []) j ≡ some v → AllFit k ws [] v
    only zero v e = subst (AllFit k ws []) (some-injective _ _ e) (hand_fits k counters ws k.threads 1 opens (omega arith) (omega arith))
    only (suc j) v e = absurd (some-ne-none v (sym e))

-- the values that the counters began with stand after all else
pub presets_are : (k : Layout') (counters ws : List ℕ) → length counters ≡ length k.conditions → Opens k counters ws → drop (counter_place k 0) ws ≡ counters
presets_are k counters ws many opens =
    let wide : length ws ≡ words_of k = opens.0 in
    let left : length (drop (counter_place k 0) ws) ≡ length ws - counter_place k 0 = length-drop (counter_place k 0) ws in
    let same : length (drop (counter_place k 0) ws) ≡ length counters = omega arith in
    ext_get_or 0 (drop (counter_place k 0) ws) counters same
    (λ q low. let lower : q < length k.conditions = omega arith in let place : counter_place k 0 + q ≡ counter_place k q = omega arith in
    get_or-drop (counter_place k 0) ws q 0 ∙ ap (λ (p : ℕ). get_or ws p 0) place ∙ opens.1 (counter_place k q) (omega arith) ∙ counter_first k counters q lower)

pub dealt_first : (a : Layout') (o : List ℕ) (t n : ℕ) → 0 < n → first_of (hand a o t n) ≡ first_card a o t ∷ []
dealt_first a o t zero pos = absurd (omega arith)
dealt_first a o t (suc n) pos = refl

pub dealt_rest : (a : Layout') (o : List ℕ) (t n : ℕ) → 0 < n → rest_of (hand a o t n) ≡ hand a o (t + 1) (n - 1)
dealt_rest a o t zero pos = absurd (omega arith)
dealt_rest a o t (suc n) pos = ap (λ (z : ℕ). hand a o (t + 1) z) (let e : n ≡ suc n - 1 = omega arith in e)

-- passes that meet hold what they held
pub held_first : (c d c' d' : Card) → Joined c d c' d' → held c' ≡ held c
held_first c d c' d' j = ap held j.first ∙ count_same c.thread j.seen c.seen (λ p. ap (held_after false) (j.own p).0)

pub held_second : (c d c' d' : Card) → Joined c d c' d' → held d' ≡ held d
held_second c d c' d' j = ap held j.second ∙ count_same d.thread j.seen d.seen (λ p. ap (held_after false) (j.own p).1)

-- and no mutex is held by both
pub exclusive : (c d c' d' : Card) → Joined c d c' d' → AreExclusive c' d'
exclusive c d c' d' j p mine =
    let o : Object = (j.legal p).0 in
    let run = (j.legal p).1.0 in
    let first : holds c.thread (at j.seen p) ≡ true = subst (λ (z : Card). holds z.thread (at z.seen p) ≡ true) j.first mine in
    let owner : owns c.thread o ≡ true = sym (owner_held c.thread fresh (at j.seen p) o run) ∙ first in
    subst (λ (z : Card). holds z.thread (at z.seen p) ≡ false) (sym j.second) (owner_held d.thread fresh (at j.seen p) o run ∙ owns_one c.thread d.thread o j.apart owner)
