-- The record of the changes of cells and of counters, from step to step.
use Rattle.std.proofs.Common.{Bool, true, false, ◌≡◌, ◌≢◌, ⊎_elim, ℕ, zero, suc, ◌+◌, ◌<◌, ◌≤◌, ◌==◌, not, List, [], ◌∷◌, ◌++◌, length, get_or, set, refl, sym, ap, ◌∙◌, subst, arith, append_assoc, append-nil, length-append, eq-eqb, ne_eqb, eqb-true, get_or-set_other, get_or-set_same}
use Rattle.std.specs.Prelude.{if◌then◌else◌}
use Rattle.std.proofs.lemmas.List.Elements.{filter-append}
use mathlib.Core.Logic.{dite}
use mathlib.Core.List.{IsPrefix}
use mathlib.Core.Option.{some}
use native.Mathlib.Decide.{ℕ_discrete}
use lib.ListN.{get_elem?}
use Rattle.atomic_table.proofs.Lists.{at_set, at_snoc}
use Rattle.memorymap.specs.Layouts.{Layout', cell_place, counter_place}
use Rattle.ruledwords.specs.declared.pass.Card.{Card}
use Rattle.ruledwords.specs.declared.pass.Change.{Change}
use Rattle.ruledwords.specs.Changes.{changes_at, put_changes, made_by, made_by_others, left_by, left_of, change_of, behind_unknown, first_changes, AllTied, AreBehindFirst, AreBy, ChangedNone, ChangedNothing, ChangedOnce, CountedOnce, KnowsMoreAt, KnowsOn, Loaded, OthersChanged, Recorded, Tied, TiedAt, Writes}
use Rattle.ruledwords.specs.Rules.{cards_of, all_cards_of}
use Rattle.ruledwords.proofs.Lists.{all_two, counted}

-- ---- by place

changes_put : (xs : List (List Change)) (p : ℕ) (y : List Change) → changes_at (put_changes xs p y) p ≡ y
changes_put [] zero y = refl
changes_put [] (suc p) y = changes_put [] p y
changes_put (x ∷ xs) zero y = refl
changes_put (x ∷ xs) (suc p) y = changes_put xs p y

changes_put_else : (xs : List (List Change)) (p q : ℕ) (y : List Change) → q ≢ p → changes_at (put_changes xs p y) q ≡ changes_at xs q
changes_put_else [] zero zero y n = absurd (n refl)
changes_put_else [] zero (suc q) y n = refl
changes_put_else [] (suc p) zero y n = refl
changes_put_else [] (suc p) (suc q) y n = changes_put_else [] p q y (λ e. n (ap suc e))
changes_put_else (x ∷ xs) zero zero y n = absurd (n refl)
changes_put_else (x ∷ xs) zero (suc q) y n = refl
changes_put_else (x ∷ xs) (suc p) zero y n = refl
changes_put_else (x ∷ xs) (suc p) (suc q) y n = changes_put_else xs p q y (λ e. n (ap suc e))

-- ---- of one word

made_append : (t : ℕ) (xs ys : List Change) → made_by t (xs ++ ys) ≡ made_by t xs ++ made_by t ys
made_append t xs ys = filter-append (λ (x : Change). x.thread == t) xs ys

none_made : (xs ys : List Change) → xs ++ ys ≡ xs → ys ≡ []
none_made [] ys e = e
none_made (x ∷ xs) ys e = none_made xs ys (cc e)

other_made : (u t n v : ℕ) → t ≢ u → made_by u (change_of t n v) ≡ []
other_made u t n v apart = go (v == n)
  where
    go : (b : Bool) → made_by u (if b then [] else record { thread = t; word = v } ∷ []) ≡ []
    go true = refl
    go false = rw (ne_eqb t u apart) refl

left_append : (w : ℕ) (xs ys : List Change) → left_of w (xs ++ ys) ≡ left_of (left_of w xs) ys
left_append w [] ys = refl
left_append w (x ∷ xs) ys = left_append x.word xs ys

left_changed : (t n v : ℕ) → left_of n (change_of t n v) ≡ v
left_changed t n v = go (v == n) refl
  where
    go : (b : Bool) → (v == n) ≡ b → left_of n (if b then [] else record { thread = t; word = v } ∷ []) ≡ v
    go true is = sym (eqb-true v n is)
    go false is = refl

-- what other cards know begins a longer list too
abbrev grown : (xs ys zs : List Change) → IsPrefix xs ys → IsPrefix xs (ys ++ zs)
grown xs ys zs p = (p.0 ++ zs, sym (append_assoc xs p.0 zs) ∙ ap (λ (l : List Change). l ++ zs) p.1)

-- ---- who made them

pub by_append : (n : ℕ) (xs ys : List Change) → AreBy n xs → AreBy n ys → AreBy n (xs ++ ys)
by_append n [] ys are more = more
by_append n (x ∷ xs) ys are more = (are.0, by_append n xs ys are.1 more)

by_change : (n t a v : ℕ) → (1 ≤ t) × (t ≤ n) → AreBy n (change_of t a v)
by_change n t a v whose = go (v == a) where
  go : (b : Bool) → AreBy n (if b then [] else record { thread = t; word = v } ∷ [])
  go true = tt
  go false = (whose, tt)

authored_more : (n : ℕ) (xs ys : List Change) → AreBehindFirst n xs → AreBy n ys → AreBehindFirst n (xs ++ ys)
authored_more n [] [] are more = tt
authored_more n [] (y ∷ ys) are more = more.1
authored_more n (x ∷ xs) ys are more = by_append n xs ys are more

-- ---- what is known goes on

pub knows_on_self : (c : Card) → KnowsOn c c
knows_on_self c p = ([], append-nil (changes_at c.changes p), tt)

pub knows_on_same : (c d : Card) → d.changes ≡ c.changes → KnowsOn c d
knows_on_same c d same p = ([], append-nil (changes_at c.changes p) ∙ ap (λ (l : List (List Change)). changes_at l p) (sym same), tt)

pub knows_on_then : (c d e : Card) → d.threads ≡ c.threads → KnowsOn c d → KnowsOn d e → KnowsOn c e
knows_on_then c d e same first more p = ((first p).0 ++ (more p).0, sym (append_assoc (changes_at c.changes p) (first p).0 (more p).0) ∙ ap (λ (l : List Change). l ++ (more p).0) (first p).1 ∙ (more p).1, by_append c.threads (first p).0 (more p).0 (first p).2 (subst (λ (n : ℕ). AreBy n (more p).0) same (more p).2))

-- by an access
pub knows_on_by : (c d : Card) (p n v : ℕ) → Writes c p n v d → KnowsOn c d
knows_on_by c d p n v w q = dite (ℕ_discrete q p)
    (λ here. subst (λ (z : ℕ). (since : List Change) × (changes_at c.changes z ++ since ≡ changes_at d.changes z) × AreBy c.threads since) (sym here) (w.since ++ change_of c.thread n v, sym (append_assoc (changes_at c.changes p) w.since (change_of c.thread n v)) ∙ sym w.grows, w.authors))
    (λ other. ([], append-nil (changes_at c.changes q) ∙ sym (w.elsewhere q other), tt))

-- and as far as is known of one word
pub knows_on_at : (c d : Card) (p : ℕ) → KnowsMoreAt c p d → KnowsOn c d
knows_on_at c d p more q = dite (ℕ_discrete q p)
    (λ here. subst (λ (z : ℕ). (since : List Change) × (changes_at c.changes z ++ since ≡ changes_at d.changes z) × AreBy c.threads since) (sym here) more.here)
    (λ other. ([], append-nil (changes_at c.changes q) ∙ sym (more.elsewhere q other), tt))

-- ---- a change

tied_own : (n : ℕ) (xs ys : List (List Change)) (t p : ℕ) (zs : List Change) → Tied n xs t ys → Tied n (put_changes xs p zs) t (put_changes ys p zs)
tied_own n xs ys t p zs tied q = dite (ℕ_discrete q p)
    (λ e.
    let same : changes_at (put_changes ys p zs) q ≡ changes_at (put_changes xs p zs) q = ap (changes_at (put_changes ys p zs)) e ∙ changes_put ys p zs ∙ sym (changes_put xs p zs) ∙ ap (changes_at (put_changes xs p zs)) (sym e) in
    (([], append-nil _ ∙ same), ap (made_by t) same, tt))
    (λ other. subst (λ (z : List Change × List Change). TiedAt n z.0 t z.1) (λ i. (sym (changes_put_else xs p q zs other) i, sym (changes_put_else ys p q zs other) i)) (tied q))

tied_other : (k : ℕ) (xs ys : List (List Change)) (u t p n v : ℕ) → (1 ≤ t) × (t ≤ k) → t ≢ u → Tied k xs u ys → Tied k (put_changes xs p (changes_at xs p ++ change_of t n v)) u ys
tied_other k xs ys u t p n v whose apart tied q =
    let zs : List Change = changes_at xs p ++ change_of t n v in
    let here : made_by u zs ≡ made_by u (changes_at xs p) = made_append u (changes_at xs p) (change_of t n v) ∙ ap (λ (l : List Change). made_by u (changes_at xs p) ++ l) (other_made u t n v apart) ∙ append-nil _ in
    dite (ℕ_discrete q p)
    (λ e. subst (λ (z : ℕ). TiedAt k (changes_at (put_changes xs p zs) z) u (changes_at ys z)) (sym e)
    (subst (λ (l : List Change). TiedAt k l u (changes_at ys p)) (sym (changes_put xs p zs))
    (grown (changes_at ys p) (changes_at xs p) (change_of t n v) (tied p).0, (tied p).1 ∙ sym here, by_append k (tied p).0.0 (change_of t n v) (tied p).2 (by_change k t n v whose))))
    (λ e. subst (λ (l : List Change). TiedAt k l u (changes_at ys q)) (sym (changes_put_else xs p q zs e)) (tied q))

all_tied_other : (k : ℕ) (xs : List (List Change)) (t p n v : ℕ) (cs : List Card) → (1 ≤ t) × (t ≤ k) → cards_of t cs ≡ 0 → AllTied k xs cs → AllTied k (put_changes xs p (changes_at xs p ++ change_of t n v)) cs
all_tied_other k xs t p n v [] whose nobody tied = tt
all_tied_other k xs t p n v (c ∷ cs) whose nobody tied =
    let apart : t ≢ c.thread = λ e. let some_card = counted t c cs e in absurd (omega arith) in
    (tied_other k xs c.changes c.thread t p n v whose apart tied.0, all_tied_other k xs t p n v cs whose (omega arith) tied.1)

-- what the changes leave of any word then
left_now : (ws : List ℕ) (xs : List (List Change)) (t p v : ℕ) → p < length ws → left_by (changes_at xs p) ≡ get_or ws p 0 → (q : ℕ) → left_by (changes_at xs q) ≡ get_or ws q 0
    → left_by (changes_at (put_changes xs p (changes_at xs p ++ change_of t (get_or ws p 0) v)) q) ≡ get_or (set ws p v) q 0
left_now ws xs t p v within had q was =
    let n : ℕ = get_or ws p 0 in
    let zs : List Change = changes_at xs p ++ change_of t n v in
    dite (ℕ_discrete q p)
    (λ e. subst (λ (z : ℕ). left_by (changes_at (put_changes xs p zs) z) ≡ get_or (set ws p v) z 0) (sym e)
    (ap left_by (changes_put xs p zs) ∙ left_append 0 (changes_at xs p) (change_of t n v) ∙ ap (λ (w : ℕ). left_of w (change_of t n v)) had ∙ left_changed t n v ∙ sym (get_or-set_same ws p v 0 within)))
    (λ other. ap left_by (changes_put_else xs p q zs other) ∙ was ∙ sym (get_or-set_other ws p q v 0 other))

-- the thread of the card c found n in the word at p, of which the changes are recorded, and left v
pub recorded_change : (k : Layout') (ws : List ℕ) (vs : List (List Card)) (r : Recorded k ws vs) (id : ℕ) (c d : Card) (p v : ℕ) → (1 ≤ c.thread) × (c.thread ≤ k.threads) → get_elem? vs id ≡ some (c ∷ []) → p < length ws → ((t : ℕ) → all_cards_of t vs ≤ 1)
    → d.thread ≡ c.thread → d.changes ≡ put_changes c.changes p (changes_at r.changes p ++ change_of c.thread (get_or ws p 0) v) → left_by (changes_at r.changes p) ≡ get_or ws p 0
    → Recorded k (set ws p v) (set vs id (d ∷ []))
recorded_change k ws vs r id c d p v whose is within once same grows had =
    let n : ℕ = get_or ws p 0 in
    let zs : List Change = changes_at r.changes p ++ change_of c.thread n v in
    let mine : Tied k.threads (put_changes r.changes p zs) d.thread d.changes = subst (λ (z : ℕ × List (List Change)). Tied k.threads (put_changes r.changes p zs) z.0 z.1) (λ i. (sym same i, sym grows i)) (tied_own k.threads r.changes c.changes c.thread p zs (r.tied id (c ∷ []) is).0) in
    record {
      changes = put_changes r.changes p zs;
      leave = λ l lower. left_now ws r.changes c.thread p v within had (cell_place k l) (r.leave l lower);
      count = λ q lower. left_now ws r.changes c.thread p v within had (counter_place k q) (r.count q lower);
      authors = λ q. dite (ℕ_discrete q p)
          (λ here. subst (λ (z : ℕ). AreBehindFirst k.threads (changes_at (put_changes r.changes p zs) z)) (sym here) (subst (AreBehindFirst k.threads) (sym (changes_put r.changes p zs)) (authored_more k.threads (changes_at r.changes p) (change_of c.thread n v) (r.authors p) (by_change k.threads c.thread n v whose))))
          (λ other. subst (AreBehindFirst k.threads) (sym (changes_put_else r.changes p q zs other)) (r.authors q));
      tied = λ j w e. ⊎_elim
          (λ (t : (j ≡ id) × (d ∷ [] ≡ w)). subst (AllTied k.threads (put_changes r.changes p zs)) t.1 (mine, tt))
          (λ (t : (j ≢ id) × (get_elem? vs j ≡ some w)).
          let two = all_two c.thread vs id j (c ∷ []) w is t.1 t.0 in
          let one = once c.thread in
          let some_card = counted c.thread c [] refl in
          all_tied_other k.threads r.changes c.thread p n v w whose (omega arith) (r.tied j w t.1))
          (at_set vs id j (d ∷ []) w e);
    }

-- ---- where no cell and no counter is changed

pub recorded_words : (k : Layout') (ws ws' : List ℕ) (vs : List (List Card)) → ((m : ℕ) → m < k.mutexes → get_or ws' (cell_place k m) 0 ≡ get_or ws (cell_place k m) 0)
    → ((q : ℕ) → q < length k.conditions → get_or ws' (counter_place k q) 0 ≡ get_or ws (counter_place k q) 0) → Recorded k ws vs → Recorded k ws' vs
recorded_words k ws ws' vs same as_well r = record { changes = r.changes; leave = λ m low. r.leave m low ∙ sym (same m low); count = λ q low. r.count q low ∙ sym (as_well q low); authors = r.authors; tied = r.tied }

-- one seat's cards know of the changes what they knew
pub recorded_set : (k : Layout') (ws : List ℕ) (vs : List (List Card)) (id : ℕ) (v w : List Card) → get_elem? vs id ≡ some v → (r : Recorded k ws vs) → (AllTied k.threads r.changes v → AllTied k.threads r.changes w) → Recorded k ws (set vs id w)
recorded_set k ws vs id v w is r so = record {
  changes = r.changes;
  leave = r.leave;
  count = r.count;
  authors = r.authors;
  tied = λ j u e. ⊎_elim
      (λ (t : (j ≡ id) × (w ≡ u)). subst (AllTied k.threads r.changes) t.1 (so (r.tied id v is)))
      (λ (t : (j ≢ id) × (get_elem? vs j ≡ some u)). r.tied j u t.1)
      (at_set vs id j w u e);
}

-- cards are dealt to a new seat
pub recorded_dealt : (k : Layout') (ws : List ℕ) (vs : List (List Card)) (id : ℕ) (v w u : List Card) → get_elem? vs id ≡ some v → ((xs : List (List Change)) → AllTied k.threads xs v → AllTied k.threads xs w × AllTied k.threads xs u) → Recorded k ws vs → Recorded k ws (set vs id w ++ u ∷ [])
recorded_dealt k ws vs id v w u is so r = record {
  changes = r.changes;
  leave = r.leave;
  count = r.count;
  authors = r.authors;
  tied = λ j x e. ⊎_elim
      (λ (was : get_elem? (set vs id w) j ≡ some x). ⊎_elim
      (λ (t : (j ≡ id) × (w ≡ x)). subst (AllTied k.threads r.changes) t.1 (so r.changes (r.tied id v is)).0)
      (λ (t : (j ≢ id) × (get_elem? vs j ≡ some x)). r.tied j x t.1)
      (at_set vs id j w x was))
      (λ (same : u ≡ x). subst (AllTied k.threads r.changes) same (so r.changes (r.tied id v is)).1)
      (at_snoc (set vs id w) u x j e);
}

pub tied_append : (n : ℕ) (xs : List (List Change)) (cs ds : List Card) → AllTied n xs cs → AllTied n xs ds → AllTied n xs (cs ++ ds)
tied_append n xs [] ds f g = g
tied_append n xs (c ∷ cs) ds f g = (f.0, tied_append n xs cs ds f.1 g)

-- who knows all
pub tied_self : (n : ℕ) (xs : List (List Change)) (t : ℕ) → Tied n xs t xs
tied_self n xs t p = (([], append-nil (changes_at xs p)), refl, tt)

-- ---- at first

authored_first : (n : ℕ) (ws : List ℕ) (p : ℕ) → AreBehindFirst n (changes_at (first_changes ws) p)
authored_first n [] p = tt
authored_first n (w ∷ ws) zero = tt
authored_first n (w ∷ ws) (suc p) = authored_first n ws p

-- of a word as it was given only that is known, and of those before nothing
pub authored_behind : (n b : ℕ) (ws : List ℕ) (p : ℕ) → AreBehindFirst n (changes_at (behind_unknown b (first_changes ws)) p)
authored_behind n zero ws p = authored_first n ws p
authored_behind n (suc b) ws zero = tt
authored_behind n (suc b) ws (suc p) = authored_behind n b ws p

pub left_before : (b : ℕ) (xs : List (List Change)) (p : ℕ) → p < b → left_by (changes_at (behind_unknown b xs) p) ≡ 0
left_before zero xs p low = absurd (omega (arith, low))
left_before (suc b) xs zero low = refl
left_before (suc b) xs (suc p) low = left_before b xs p (omega (arith, low))

pub left_at_first : (b : ℕ) (ws : List ℕ) (q p : ℕ) → p ≡ b + q → left_by (changes_at (behind_unknown b (first_changes ws)) p) ≡ get_or ws q 0
left_at_first zero ws q p is = ap (λ (x : ℕ). left_by (changes_at (first_changes ws) x)) (let e : p ≡ q = omega (arith, is) in e) ∙ changes_first ws q where
  changes_first : (ws : List ℕ) (p : ℕ) → left_by (changes_at (first_changes ws) p) ≡ get_or ws p 0
  changes_first [] p = refl
  changes_first (w ∷ ws) zero = refl
  changes_first (w ∷ ws) (suc p) = changes_first ws p
left_at_first (suc b) ws q zero is = absurd (omega (arith, is))
left_at_first (suc b) ws q (suc p) is = left_at_first b ws q p (omega (arith, is))

-- ---- what an access tells

pub writes_there : (k : Layout') (ws : List ℕ) (vs : List (List Card)) (r : Recorded k ws vs) (id : ℕ) (c d : Card) (p v : ℕ) → (1 ≤ c.thread) × (c.thread ≤ k.threads) → c.threads ≡ k.threads → left_by (changes_at r.changes p) ≡ get_or ws p 0 → get_elem? vs id ≡ some (c ∷ [])
    → d.changes ≡ put_changes c.changes p (changes_at r.changes p ++ change_of c.thread (get_or ws p 0) v) → Writes c p (get_or ws p 0) v d
writes_there k ws vs r id c d p v whose all had is grows =
    let tied = (r.tied id (c ∷ []) is).0 p in
    let mine : List Change = changes_at c.changes p in
    let alone : made_by c.thread mine ++ made_by c.thread tied.0.0 ≡ made_by c.thread mine = sym (made_append c.thread mine tied.0.0) ∙ ap (made_by c.thread) tied.0.1 ∙ sym tied.1 in
    record {
      since = tied.0.0;
      others = none_made (made_by c.thread mine) (made_by c.thread tied.0.0) alone;
      authors = subst (λ (n : ℕ). AreBy n (tied.0.0 ++ change_of c.thread (get_or ws p 0) v)) (sym all) (by_append k.threads tied.0.0 (change_of c.thread (get_or ws p 0) v) tied.2 (by_change k.threads c.thread (get_or ws p 0) v whose));
      grows = ap (λ (l : List (List Change)). changes_at l p) grows ∙ changes_put c.changes p _ ∙ ap (λ (l : List Change). l ++ change_of c.thread (get_or ws p 0) v) (sym tied.0.1);
      met = ap left_by tied.0.1 ∙ had;
      elsewhere = λ q other. ap (λ (l : List (List Change)). changes_at l q) grows ∙ changes_put_else c.changes p q _ other;
    }

-- ---- of a call

pub nothing_yet : (c : Card) (p : ℕ) → ChangedNothing c p c
nothing_yet c p = record { since = []; others = refl; grows = sym (append-nil (changes_at c.changes p)) }

-- an access that changes nothing
pub nothing_more : (c d e : Card) (p n : ℕ) → d.thread ≡ c.thread → ChangedNothing c p d → Writes d p n n e → ChangedNothing c p e
nothing_more c d e p n same so w = record {
  since = so.since ++ w.since;
  others = made_append c.thread so.since w.since ∙ ap (λ (l : List Change). l ++ made_by c.thread w.since) so.others ∙ ap (λ (t : ℕ). made_by t w.since) (sym same) ∙ w.others;
  grows = w.grows ∙ ap (λ (b : Bool). (changes_at d.changes p ++ w.since) ++ (if b then [] else record { thread = d.thread; word = n } ∷ [])) (eq-eqb n n refl) ∙ append-nil _ ∙ ap (λ (l : List Change). l ++ w.since) so.grows ∙ append_assoc (changes_at c.changes p) so.since w.since;
}

-- an access that changes the word, and that tells what it found
pub once_now : (c d e : Card) (p n v : ℕ) → d.thread ≡ c.thread → v ≢ n → e.last ≡ n → ChangedNothing c p d → Writes d p n v e → ChangedOnce c p e
once_now c d e p n v same differs last so w = record {
  since = so.since ++ w.since;
  others = made_append c.thread so.since w.since ∙ ap (λ (l : List Change). l ++ made_by c.thread w.since) so.others ∙ ap (λ (t : ℕ). made_by t w.since) (sym same) ∙ w.others;
  word = v;
  grows = w.grows ∙ ap (λ (b : Bool). (changes_at d.changes p ++ w.since) ++ (if b then [] else record { thread = d.thread; word = v } ∷ [])) (ne_eqb v n differs)
      ∙ (λ i. (before i) ++ record { thread = same i; word = v } ∷ []);
  found = ap left_by (sym before) ∙ w.met ∙ sym last;
}
  where
    before : changes_at d.changes p ++ w.since ≡ changes_at c.changes p ++ (so.since ++ w.since)
    before = ap (λ (l : List Change). l ++ w.since) so.grows ∙ append_assoc (changes_at c.changes p) so.since w.since

-- ---- what a thread hasn't changed

pub none_self : (P : ℕ → Type 0) (c : Card) → ChangedNone P c c
none_self P c p there = refl

pub none_then : (P Q : ℕ → Type 0) (c d e : Card) → d.thread ≡ c.thread → ((x : ℕ) → Q x → P x) → ChangedNone Q c d → ChangedNone P d e → ChangedNone Q c e
none_then P Q c d e same less first more p there = subst (λ (t : ℕ). made_by t (changes_at e.changes p) ≡ made_by t (changes_at d.changes p)) same (more p (less p there)) ∙ first p there

-- an access at one word
pub none_by : (c d : Card) (p n v : ℕ) → Writes c p n v d → ChangedNone (λ x. x ≢ p) c d
none_by c d p n v w x other = ap (made_by c.thread) (w.elsewhere x other)

pub none_at : (c d : Card) (p : ℕ) → KnowsMoreAt c p d → ChangedNone (λ x. x ≢ p) c d
none_at c d p more x other = ap (made_by c.thread) (more.elsewhere x other)

-- a load
pub none_loaded : (c d : Card) (p n : ℕ) → Writes c p n n d → ChangedNone (λ x. Unit {0}) c d
none_loaded c d p n w x there = dite (ℕ_discrete x p)
    (λ here. subst (λ (z : ℕ). made_by c.thread (changes_at d.changes z) ≡ made_by c.thread (changes_at c.changes z)) (sym here)
    (ap (made_by c.thread) grows ∙ made_append c.thread (changes_at c.changes p) w.since ∙ ap (λ (l : List Change). made_by c.thread (changes_at c.changes p) ++ l) w.others ∙ append-nil _))
    (λ other. ap (made_by c.thread) (w.elsewhere x other))
  where
    grows : changes_at d.changes p ≡ changes_at c.changes p ++ w.since
    grows = w.grows ∙ ap (λ (b : Bool). (changes_at c.changes p ++ w.since) ++ (if b then [] else record { thread = c.thread; word = n } ∷ [])) (eq-eqb n n refl) ∙ append-nil _

-- what it knows more of a word of which it has changed nothing is others'
pub nothing_by : (c d : Card) (p : ℕ) → KnowsOn c d → made_by c.thread (changes_at d.changes p) ≡ made_by c.thread (changes_at c.changes p) → ChangedNothing c p d
nothing_by c d p on same = record {
  since = (on p).0;
  others = none_made (made_by c.thread (changes_at c.changes p)) (made_by c.thread (on p).0) (sym (made_append c.thread (changes_at c.changes p) (on p).0) ∙ ap (made_by c.thread) (on p).1 ∙ same);
  grows = sym (on p).1;
}

-- ---- a count

-- by an access that found n and left one more
pub counted_now : (c d e : Card) (z p n v : ℕ) → d.thread ≡ c.thread → v ≡ n + 1 → e.counted ≡ n → ChangedNothing c p d → ChangedNone (λ x. x ≢ z) c d → Writes d p n v e → CountedOnce c z p e
counted_now c d e z p n v same next is so none w = record {
  since = so.since ++ w.since;
  others = made_append c.thread so.since w.since ∙ ap (λ (l : List Change). l ++ made_by c.thread w.since) so.others ∙ ap (λ (t : ℕ). made_by t w.since) (sym same) ∙ w.others;
  grows = w.grows ∙ ap (λ (b : Bool). (changes_at d.changes p ++ w.since) ++ (if b then [] else record { thread = d.thread; word = v } ∷ [])) (ne_eqb v n differs)
      ∙ (λ i. (before i) ++ record { thread = same i; word = (next ∙ ap (λ (u : ℕ). u + 1) (sym is)) i } ∷ []);
  found = ap left_by (sym before) ∙ w.met ∙ sym is;
  elsewhere = λ x there. subst (λ (t : ℕ). made_by t (changes_at e.changes x) ≡ made_by t (changes_at d.changes x)) same (ap (made_by d.thread) (w.elsewhere x there.1)) ∙ none x there.0;
}
  where
    differs : v ≢ n
    differs e = absurd (omega (arith, next, e))

    before : changes_at d.changes p ++ w.since ≡ changes_at c.changes p ++ (so.since ++ w.since)
    before = ap (λ (l : List Change). l ++ w.since) so.grows ∙ append_assoc (changes_at c.changes p) so.since w.since

-- and it stays so, where the thread changes nothing but the cell
pub counted_still : (c d e : Card) (z p : ℕ) → d.thread ≡ c.thread → changes_at e.changes p ≡ changes_at d.changes p → e.counted ≡ d.counted → ChangedNone (λ x. x ≢ z) d e → CountedOnce c z p d → CountedOnce c z p e
counted_still c d e z p same alike counted none so = record {
  since = so.since;
  others = so.others;
  grows = alike ∙ so.grows ∙ ap (λ (n : ℕ). (changes_at c.changes p ++ so.since) ++ record { thread = c.thread; word = n + 1 } ∷ []) (sym counted);
  found = so.found ∙ sym counted;
  elsewhere = λ x there. subst (λ (t : ℕ). made_by t (changes_at e.changes x) ≡ made_by t (changes_at d.changes x)) same (none x there.0) ∙ so.elsewhere x there;
}

abbrev pub more_yet : (c : Card) (p : ℕ) → KnowsMoreAt c p c
more_yet c p = record { here = ([], append-nil _, tt); elsewhere = λ q other. refl; counted = refl }

-- an access at the word at p
abbrev pub more_by : (c d : Card) (p n v : ℕ) → d.counted ≡ c.counted → Writes c p n v d → KnowsMoreAt c p d
more_by c d p n v same w = record { here = (w.since ++ change_of c.thread n v, sym (append_assoc (changes_at c.changes p) w.since (change_of c.thread n v)) ∙ sym w.grows, w.authors); elsewhere = w.elsewhere; counted = same }

abbrev pub more_on : (c d e : Card) (p : ℕ) → d.threads ≡ c.threads → KnowsMoreAt c p d → KnowsMoreAt d p e → KnowsMoreAt c p e
more_on c d e p same first more = record {
  here = (
    first.here.0 ++ more.here.0,
    sym (append_assoc (changes_at c.changes p) first.here.0 more.here.0) ∙ ap (λ (l : List Change). l ++ more.here.0) first.here.1 ∙ more.here.1,
    by_append c.threads first.here.0 more.here.0 first.here.2 (subst (λ (n : ℕ). AreBy n more.here.0) same more.here.2),
  );
  elsewhere = λ q other. more.elsewhere q other ∙ first.elsewhere q other;
  counted = more.counted ∙ first.counted;
}

-- who knows what it knew of changes
pub more_same : (c d : Card) (p : ℕ) → d.counted ≡ c.counted → d.changes ≡ c.changes → KnowsMoreAt c p d
more_same c d p same alike = record { here = ([], append-nil _ ∙ ap (λ (l : List (List Change)). changes_at l p) (sym alike), tt); elsewhere = λ q other. ap (λ (l : List (List Change)). changes_at l q) alike; counted = same }

-- where its changes are known as they were
pub nothing_still : (c d e : Card) (p : ℕ) → changes_at e.changes p ≡ changes_at d.changes p → ChangedNothing c p d → ChangedNothing c p e
nothing_still c d e p same so = record { since = so.since; others = so.others; grows = same ∙ so.grows }

pub loaded_still : (c d e : Card) (p : ℕ) → changes_at e.changes p ≡ changes_at d.changes p → e.counted ≡ d.counted → Loaded c p d → Loaded c p e
loaded_still c d e p same counted so = record { nothing = nothing_still c d e p same so.nothing; left = ap left_by same ∙ so.left ∙ sym counted }

-- a load of a counter that found n
pub loaded_now : (c d e : Card) (p n : ℕ) → d.thread ≡ c.thread → e.counted ≡ n → ChangedNothing c p d → Writes d p n n e → Loaded c p e
loaded_now c d e p n same is so w = record {
  nothing = nothing_more c d e p n same so w;
  left = ap left_by (w.grows ∙ ap (λ (b : Bool). (changes_at d.changes p ++ w.since) ++ (if b then [] else record { thread = d.thread; word = n } ∷ [])) (eq-eqb n n refl) ∙ append-nil _) ∙ w.met ∙ sym is;
}

-- ---- others' changes

others_append : (t : ℕ) (xs ys : List Change) → made_by_others t (xs ++ ys) ≡ made_by_others t xs ++ made_by_others t ys
others_append t xs ys = filter-append (λ (x : Change). not (x.thread == t)) xs ys

-- more of them are known, if more is known
others_more : (t : ℕ) (xs ys : List Change) → length (made_by_others t (xs ++ ys)) ≡ length (made_by_others t xs) + length (made_by_others t ys)
others_more t xs ys = ap length (others_append t xs ys) ∙ length-append (made_by_others t xs) (made_by_others t ys)

pub others_stay : (n t : ℕ) (xs ys : List Change) → n ≤ length (made_by_others t xs) → n ≤ length (made_by_others t (xs ++ ys))
others_stay n t xs ys le = let sum = others_more t xs ys in omega arith

-- whoever finds another word than the one that it knew to be there finds changes by others
some_other : (t : ℕ) (xs : List Change) → made_by t xs ≡ [] → xs ≢ [] → 1 ≤ length (made_by_others t xs)
some_other t [] none any = absurd (any refl)
some_other t (x ∷ xs) none any = go (x.thread == t) refl
  where
    go : (b : Bool) → (x.thread == t) ≡ b → 1 ≤ length (made_by_others t (x ∷ xs))
    go true is = absurd (let own : made_by t (x ∷ xs) ≡ x ∷ made_by t xs = rw is refl in cc (own, none))
    go false is =
        let other : made_by_others t (x ∷ xs) ≡ x ∷ made_by_others t xs = rw is refl in
        let some_more : 1 ≤ suc (length (made_by_others t xs)) = omega arith in
        subst (λ (l : List Change). 1 ≤ length l) (sym other) some_more

pub others_found : (c d : Card) (p n v : ℕ) → left_by (changes_at c.changes p) ≢ n → (w : Writes c p n v d) → 1 ≤ length (made_by_others c.thread (w.since ++ change_of c.thread n v))
others_found c d p n v other w =
    others_stay 1 c.thread w.since (change_of c.thread n v)
    (some_other c.thread w.since w.others (λ none. other (sym (ap left_by (append-nil (changes_at c.changes p))) ∙ ap (λ (l : List Change). left_by (changes_at c.changes p ++ l)) (sym none) ∙ w.met)))

-- what a call knows of them
pub others_on : (m n t : ℕ) (xs ys : List Change) → m ≤ length (made_by_others t xs) → n ≤ length (made_by_others t ys) → m + n ≤ length (made_by_others t (xs ++ ys))
others_on m n t xs ys first more = let sum = others_more t xs ys in omega arith

pub others_changed : (n k : ℕ) (c : Card) (p : ℕ) (d : Card) (knows : KnowsMoreAt c p d) → n ≤ k → k ≤ length (made_by_others c.thread knows.here.0) → OthersChanged n c p d
others_changed n k c p d knows few le = record { since = knows.here.0; grows = sym knows.here.1; authors = knows.here.2; others = (omega arith) }

-- what is known to be there after an access
pub left_behind : (c d : Card) (p n v : ℕ) → Writes c p n v d → left_by (changes_at d.changes p) ≡ v
left_behind c d p n v w = ap left_by w.grows ∙ left_append 0 (changes_at c.changes p ++ w.since) (change_of c.thread n v) ∙ ap (λ (z : ℕ). left_of z (change_of c.thread n v)) w.met ∙ left_changed c.thread n v
