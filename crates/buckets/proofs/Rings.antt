-- All rings of a bucket: what a change of one does to who sleeps.
use Rattle.std.proofs.Common.{◌≡◌, ◌≢◌, ℕ, zero, suc, ◌+◌, ◌-◌, ◌<◌, ◌≤◌, Bool, true, false, cond, List, [], ◌∷◌, ◌++◌, length, get_or, take, drop, Option, Some, None, refl, sym, ap, ◌∙◌, subst, arith, append_assoc, append-nil, length-append, eqb-true}
use Rattle.std.specs.Prelude.{◌==◌, map, filter, position, nat_le, nat_lt, not, if◌then◌else◌}
use Rattle.std.specs.List.{position_or_len}
use Rattle.std.proofs.lemmas.Bool.Decides.{nat_tests}
use Rattle.std.proofs.lemmas.List.{map-append, length-map, length-take-le, get_or_at, set_at}
use Rattle.std.proofs.lemmas.List.Quantifiers.{position-Some}
use Rattle.std.proofs.Math.Seq.{split_at}
use Rattle.std.proofs.Math.ListN.{set}
use Rattle.buckets.specs.declared.row.Row.{Row}
use Rattle.buckets.specs.declared.ring.Ring.{Ring}
use Rattle.buckets.specs.declared.sleeper.Sleeper.{Sleeper}
use Rattle.buckets.specs.Queues.{threads_on, StandOnce}
use Rattle.buckets.specs.Rings.{first_or, last_or, put, joined, follow, IsRing, ids_of, all_on, sleeping_of, ids_in, NoneOn, AreLinked, NotIn, Once, left_of, shorter}
use Rattle.buckets.proofs.Places.{threads_on-append}
use Rattle.buckets.proofs.Rows.{Same, Apart, same_parts, same_unlinked, follow_same, linked_same, length_follow, follow_linked, first_of_follow, first_left, once_parts, apart_parts, apart_turned, unlinked, away_from_both, keyed}

-- ---- who sleeps, in two lists of rings

pub ids_both : (w : ℕ → Option Row) (xs ys : List Ring) → ids_in w (xs ++ ys) ≡ ids_in w xs ++ ids_in w ys
ids_both w [] ys = refl
ids_both w (x ∷ xs) ys = ap (λ (q : List ℕ). ids_of w x ++ q) (ids_both w xs ys) ∙ sym (append_assoc (ids_of w x) (ids_in w xs) (ids_in w ys))

pub sleeping_both : (w : ℕ → Option Row) (xs ys : List Ring) → sleeping_of w (xs ++ ys) ≡ sleeping_of w xs ++ sleeping_of w ys
sleeping_both w [] ys = refl
sleeping_both w (x ∷ xs) ys =
    ap (λ (q : List Sleeper). all_on x.first.key.0 (ids_of w x) ++ q) (sleeping_both w xs ys) ∙ sym (append_assoc (all_on x.first.key.0 (ids_of w x)) (sleeping_of w xs) (sleeping_of w ys))

pub all_on_both : (k : ℕ) (xs ys : List ℕ) → all_on k (xs ++ ys) ≡ all_on k xs ++ all_on k ys
all_on_both k xs ys = map-append (λ (t : ℕ). record { thread = t; key = record { 0 = k } }) xs ys

-- the threads of those who sleep
pub threads_of : (w : ℕ → Option Row) (rs : List Ring) → map (λ (s : Sleeper). s.thread) (sleeping_of w rs) ≡ ids_in w rs
threads_of w [] = refl
threads_of w (r ∷ rs) =
    map-append (λ (s : Sleeper). s.thread) (all_on r.first.key.0 (ids_of w r)) (sleeping_of w rs)
    ∙ ap (λ (q : List ℕ). q ++ map (λ (s : Sleeper). s.thread) (sleeping_of w rs)) (same r.first.key.0 (ids_of w r))
    ∙ ap (λ (q : List ℕ). ids_of w r ++ q) (threads_of w rs)
  where
    same : (k : ℕ) (ids : List ℕ) → map (λ (s : Sleeper). s.thread) (all_on k ids) ≡ ids
    same k [] = refl
    same k (t ∷ ts) = ap (λ (q : List ℕ). t ∷ q) (same k ts)

pub as_many : (w : ℕ → Option Row) (rs : List Ring) → length (sleeping_of w rs) ≡ length (ids_in w rs)
as_many w rs = sym (length-map (sleeping_of w rs) (λ (s : Sleeper). s.thread)) ∙ ap length (threads_of w rs)

-- threads that are all different are different sleepers
pub different : (ss : List Sleeper) → Once (map (λ (s : Sleeper). s.thread) ss) → StandOnce ss
different [] o i j d lt in' = absurd (omega (arith, in'))
different (s ∷ ss) o zero zero d lt in' = absurd (omega (arith, lt))
different (s ∷ ss) o zero (suc j) d lt in' = λ e. other s.thread ss o.0 j d (omega (arith, in')) (sym e)
  where
    other : (t : ℕ) (ss : List Sleeper) → NotIn t (map (λ (s : Sleeper). s.thread) ss) → (j : ℕ) (d : Sleeper) → j < length ss → (get_or ss j d).thread ≢ t
    other t [] n j d lt = absurd (omega (arith, lt))
    other t (x ∷ xs) n zero d lt = n.0
    other t (x ∷ xs) n (suc j) d lt = other t xs n.1 j d (omega (arith, lt))
different (s ∷ ss) o (suc i) zero d lt in' = absurd (omega (arith, lt))
different (s ∷ ss) o (suc i) (suc j) d lt in' = different ss o.1 i j d (omega (arith, lt)) (omega (arith, in'))

pub stand_once : (w : ℕ → Option Row) (rs : List Ring) → Once (ids_in w rs) → StandOnce (sleeping_of w rs)
stand_once w rs o = different (sleeping_of w rs) (subst Once (sym (threads_of w rs)) o)

-- ---- the queue of a key

pub on_same : (k : ℕ) (ids : List ℕ) → threads_on k (all_on k ids) ≡ ids
unfolding threads_on
on_same k [] = refl
on_same k (t ∷ ts) = go (k == k) (grind (arith, nat_tests)) (on_same k ts)
  where
    go : (b : Bool) → b ≡ true → threads_on k (all_on k ts) ≡ ts → map (λ (s : Sleeper). s.thread) (cond b (record { thread = t; key = record { 0 = k } } ∷ filter (λ s. s.key.0 == k) (all_on k ts)) (filter (λ s. s.key.0 == k) (all_on k ts))) ≡ t ∷ ts
    go true e next = ap (λ (q : List ℕ). t ∷ q) next
    go false e next = absurd cc

pub on_other : (k j : ℕ) (ids : List ℕ) → k ≢ j → threads_on j (all_on k ids) ≡ []
unfolding threads_on
on_other k j [] o = refl
on_other k j (t ∷ ts) o = go (k == j) refl (on_other k j ts o)
  where
    go : (b : Bool) → (k == j) ≡ b → threads_on j (all_on k ts) ≡ [] → map (λ (s : Sleeper). s.thread) (cond b (record { thread = t; key = record { 0 = k } } ∷ filter (λ s. s.key.0 == j) (all_on k ts)) (filter (λ s. s.key.0 == j) (all_on k ts))) ≡ []
    go true e next = absurd (o (eqb-true k j e))
    go false e next = next

pub on_none : (w : ℕ → Option Row) (k : ℕ) (rs : List Ring) → NoneOn k rs → threads_on k (sleeping_of w rs) ≡ []
unfolding threads_on
on_none w k [] n = refl
on_none w k (r ∷ rs) n =
    threads_on-append k (all_on r.first.key.0 (ids_of w r)) (sleeping_of w rs)
    ∙ ap (λ (q : List ℕ). q ++ threads_on k (sleeping_of w rs)) (on_other r.first.key.0 k (ids_of w r) n.0) ∙ on_none w k rs n.1

-- ---- rows that are the same for all threads of some rings

pub same_ids : (v w : ℕ → Option Row) (rs : List Ring) → Same v w (ids_in v rs) → ids_in w rs ≡ ids_in v rs
same_ids v w [] s = refl
same_ids v w (r ∷ rs) s =
    let m = same_parts v w (ids_of v r) (ids_in v rs) s in
    ap (λ (q : List ℕ). q ++ ids_in w rs) (follow_same v w r.count r.first.thread m.0) ∙ ap (λ (q : List ℕ). ids_of v r ++ q) (same_ids v w rs m.1)

pub same_sleeping : (v w : ℕ → Option Row) (rs : List Ring) → Same v w (ids_in v rs) → sleeping_of w rs ≡ sleeping_of v rs
same_sleeping v w [] s = refl
same_sleeping v w (r ∷ rs) s =
    let m = same_parts v w (ids_of v r) (ids_in v rs) s in
    ap (λ (q : List ℕ). all_on r.first.key.0 q ++ sleeping_of w rs) (follow_same v w r.count r.first.thread m.0)
    ∙ ap (λ (q : List Sleeper). all_on r.first.key.0 (ids_of v r) ++ q) (same_sleeping v w rs m.1)

pub same_ring : (v w : ℕ → Option Row) (r : Ring) → Same v w (ids_of v r) → IsRing v r.first.key.0 (ids_of v r) → IsRing w r.first.key.0 (ids_of w r)
same_ring v w r s c =
    subst (IsRing w r.first.key.0) (sym (follow_same v w r.count r.first.thread s))
    (linked_same v w r.first.key.0 (last_or 0 (ids_of v r)) (ids_of v r) (first_or (ids_of v r) 0) s c)

pub same_linked : (v w : ℕ → Option Row) (rs : List Ring) → Same v w (ids_in v rs) → AreLinked v rs → AreLinked w rs
same_linked v w [] s c = tt
same_linked v w (r ∷ rs) s c =
    let m = same_parts v w (ids_of v r) (ids_in v rs) s in
    (c.0, same_ring v w r m.0 c.1, c.2, same_linked v w rs m.1 c.3)

-- ---- one ring between others

pub none_both : (k : ℕ) (xs ys : List Ring) → NoneOn k xs → NoneOn k ys → NoneOn k (xs ++ ys)
none_both k [] ys a b = b
none_both k (x ∷ xs) ys a b = (a.0, none_both k xs ys a.1 b)

pub none_parts : (k : ℕ) (xs ys : List Ring) → NoneOn k (xs ++ ys) → NoneOn k xs × NoneOn k ys
none_parts k [] ys a = (tt, a)
none_parts k (x ∷ xs) ys a = let m = none_parts k xs ys a.1 in ((a.0, m.0), m.1)

-- what is known of a ring and of those before it and after it
pub record Between (w : ℕ → Option Row) (front : List Ring) (r : Ring) (back : List Ring) : Type 0 where
  pub some : 1 ≤ r.count
  pub ring : IsRing w r.first.key.0 (ids_of w r)
  pub before : AreLinked w front
  pub after : AreLinked w back
  pub none_before : NoneOn r.first.key.0 front
  pub none_after : NoneOn r.first.key.0 back

pub between : (w : ℕ → Option Row) (front : List Ring) (r : Ring) (back : List Ring) → AreLinked w (front ++ r ∷ back) → Between w front r back
between w [] r back c = record { some = c.0; ring = c.1; before = tt; after = c.3; none_before = tt; none_after = c.2 }
between w (f ∷ fs) r back c =
    let m = between w fs r back c.3 in
    let n = none_parts f.first.key.0 fs (r ∷ back) c.2 in
    record {
      some = m.some;
      ring = m.ring;
      before = (c.0, c.1, n.0, m.before);
      after = m.after;
      none_before = ((λ s. n.1.0 (sym s)), m.none_before);
      none_after = m.none_after;
    }

-- the ring changes, and keeps its key
pub set_linked : (v w : ℕ → Option Row) (front : List Ring) (r q : Ring) (back : List Ring) → q.first.key.0 ≡ r.first.key.0 → AreLinked v (front ++ r ∷ back) → Same v w (ids_in v front) → Same v w (ids_in v back) → 1 ≤ q.count → IsRing w q.first.key.0 (ids_of w q) → AreLinked w (front ++ q ∷ back)
set_linked v w [] r q back k c a b some ring = (some, ring, subst (λ (j : ℕ). NoneOn j back) (sym k) c.2, same_linked v w back b c.3)
set_linked v w (f ∷ fs) r q back k c a b some ring =
    let m = same_parts v w (ids_of v f) (ids_in v fs) a in
    let n = none_parts f.first.key.0 fs (r ∷ back) c.2 in (
      c.0,
      same_ring v w f m.0 c.1,
      none_both f.first.key.0 fs (q ∷ back) n.0 ((λ s. n.1.0 (sym k ∙ s)), n.1.1),
      set_linked v w fs r q back k c.3 m.1 b some ring,
    )

-- the ring is gone
pub removed_linked : (v w : ℕ → Option Row) (front : List Ring) (r : Ring) (back : List Ring) → AreLinked v (front ++ r ∷ back) → Same v w (ids_in v front) → Same v w (ids_in v back) → AreLinked w (front ++ back)
removed_linked v w [] r back c a b = same_linked v w back b c.3
removed_linked v w (f ∷ fs) r back c a b =
    let m = same_parts v w (ids_of v f) (ids_in v fs) a in
    let n = none_parts f.first.key.0 fs (r ∷ back) c.2 in
    (c.0, same_ring v w f m.0 c.1, none_both f.first.key.0 fs back n.0 n.1.1, removed_linked v w fs r back c.3 m.1 b)

-- a ring comes, on a key that had none
pub pushed_linked : (v w : ℕ → Option Row) (rs : List Ring) (q : Ring) → AreLinked v rs → NoneOn q.first.key.0 rs → Same v w (ids_in v rs) → 1 ≤ q.count → IsRing w q.first.key.0 (ids_of w q) → AreLinked w (rs ++ q ∷ [])
pushed_linked v w [] q c n s some ring = (some, ring, tt, tt)
pushed_linked v w (r ∷ rs) q c n s some ring =
    let m = same_parts v w (ids_of v r) (ids_in v rs) s in
    (c.0, same_ring v w r m.0 c.1, none_both r.first.key.0 rs (q ∷ []) c.2 ((λ e. n.0 (sym e)), tt), pushed_linked v w rs q c.3 n.1 m.1 some ring)

-- ---- the search for the ring of a key

-- where a test finds an element
pub found_split : (p : Ring → Bool) (rs : List Ring) (i : ℕ) → position p rs ≡ Some i → (front : List Ring) × (r : Ring) × (back : List Ring) × (length front ≡ i) × (rs ≡ front ++ r ∷ back) × (p r ≡ true)
found_split p [] i e = absurd cc
found_split p (x ∷ xs) i e =
    let at = position-Some p (x ∷ xs) i x e in
    (take i (x ∷ xs), get_or (x ∷ xs) i x, drop (suc i) (x ∷ xs), length-take-le i (x ∷ xs) (omega (arith, at.0)), split_at (x ∷ xs) i x at.0, at.1)

none_till : (k : ℕ) (rs : List Ring) → length rs ≤ position_or_len (λ r. r.first.key.0 == k) rs → NoneOn k rs
none_till k [] h = tt
none_till k (x ∷ xs) h = go (none_till k xs) (x.first.key.0 == k) refl h
  where
    go : (length xs ≤ position_or_len (λ r. r.first.key.0 == k) xs → NoneOn k xs) → (b : Bool) → (x.first.key.0 == k) ≡ b → suc (length xs) ≤ cond (not b) (1 + position_or_len (λ r. r.first.key.0 == k) xs) 0 → NoneOn k (x ∷ xs)
    go next true t m = absurd (omega (arith, m))
    go next false t m = ((λ s. absurd (grind (arith, nat_tests))), next (omega (arith, m)))

-- where it finds none
pub none_found : (k : ℕ) (rs : List Ring) → position (λ r. r.first.key.0 == k) rs ≡ None → NoneOn k rs
none_found k rs e = none_till k rs (past (nat_lt (position_or_len (λ r. r.first.key.0 == k) rs) (length rs)) refl e)
  where
    past : (b : Bool) → nat_lt (position_or_len (λ r. r.first.key.0 == k) rs) (length rs) ≡ b → cond b (Some (position_or_len (λ r. r.first.key.0 == k) rs)) None ≡ None → length rs ≤ position_or_len (λ r. r.first.key.0 == k) rs
    past true t m = absurd cc
    past false t m = grind (arith, nat_tests)

-- what is left of a ring that has more than one thread
pub left_more : (r : Ring) (t a h : ℕ) → 1 < r.count → h ≡ (if r.first.thread == t then a else r.first.thread) → left_of r t a ≡ shorter r h ∷ []
left_more r t a h lt e = go (nat_le r.count 1) refl
  where
    go : (b : Bool) → nat_le r.count 1 ≡ b → (if b then [] else shorter r (if r.first.thread == t then a else r.first.thread) ∷ []) ≡ shorter r h ∷ []
    go true s = absurd (grind (arith, nat_tests))
    go false s = ap (λ (u : ℕ). shorter r u ∷ []) (sym e)

pub set_left : (rs front back : List Ring) (i : ℕ) (r x : Ring) (t a h : ℕ) → length front ≡ i → rs ≡ front ++ r ∷ back → x ≡ get_or rs i x → 1 < x.count → h ≡ (if x.first.thread == t then a else x.first.thread)
    → set rs i (shorter x h) ≡ front ++ (left_of r t a ++ back)
set_left rs front back i r x t a h long is at lt e =
    let it : x ≡ r = at ∙ ap (λ (q : List Ring). get_or q i x) is ∙ get_or_at front r back x i long in
    ap (λ (q : List Ring). set q i (shorter x h)) is ∙ set_at front r back (shorter x h) i long
    ∙ ap (λ (q : List Ring). front ++ (q ++ back)) (sym (left_more x t a h lt e) ∙ ap (λ (y : Ring). left_of y t a) it)

-- a thread with a row on a key that has no ring is none of those that sleep
pub keyed_nowhere : (w : ℕ → Option Row) (rs : List Ring) (t : ℕ) (x : Row) → AreLinked w rs → NoneOn x.key.0 rs → w t ≡ Some x → NotIn t (ids_in w rs)
keyed_nowhere w [] t x c n is = tt
keyed_nowhere w (r ∷ rs) t x c n is =
    away_from_both t (ids_of w r) (ids_in w rs) (keyed w r.first.key.0 (last_or 0 (ids_of w r)) (ids_of w r) (first_or (ids_of w r) 0) t x c.1 is n.0) (keyed_nowhere w rs t x c.3 n.1 is)

-- ---- a thread leaves

-- what is so after thread t, which stood between xs and ys in its ring, was taken out of it; v are the rows then, and rs the rings
pub record Gone (w v : ℕ → Option Row) (front : List Ring) (k : ℕ) (back : List Ring) (t : ℕ) (xs ys : List ℕ) (rs : List Ring) : Type 0 where
  pub linked : AreLinked v rs
  pub ids : ids_in v rs ≡ (ids_in w front ++ xs) ++ (ys ++ ids_in w back)
  pub sleeping : sleeping_of v rs ≡ (sleeping_of w front ++ all_on k xs) ++ (all_on k ys ++ sleeping_of w back)

pub regrouped : {A : Type 0} (a b c d : List A) → a ++ ((b ++ c) ++ d) ≡ (a ++ b) ++ (c ++ d)
regrouped a b c d = ap (λ q. a ++ q) (append_assoc b c d) ∙ sym (append_assoc a b (c ++ d))

-- the ring keeps other threads
pub gone_set : (w v : ℕ → Option Row) (front : List Ring) (r q : Ring) (back : List Ring) (t : ℕ) (xs ys : List ℕ) → AreLinked w (front ++ r ∷ back) → Same w v (ids_in w front) → Same w v (ids_in w back)
    → q.first.key.0 ≡ r.first.key.0 → 1 ≤ q.count → ids_of v q ≡ xs ++ ys → IsRing v r.first.key.0 (xs ++ ys) → Gone w v front r.first.key.0 back t xs ys (front ++ q ∷ back)
gone_set w v front r q back t xs ys c a b key some e ring = record {
  linked = set_linked w v front r q back key c a b some (subst (IsRing v q.first.key.0) (sym e) (subst (λ (j : ℕ). IsRing v j (xs ++ ys)) (sym key) ring));
  ids =
      ids_both v front (q ∷ back) ∙ ap (λ (l : List ℕ). l ++ (ids_of v q ++ ids_in v back)) (same_ids w v front a)
      ∙ ap (λ (l : List ℕ). ids_in w front ++ (l ++ ids_in v back)) e ∙ ap (λ (l : List ℕ). ids_in w front ++ ((xs ++ ys) ++ l)) (same_ids w v back b)
      ∙ regrouped (ids_in w front) xs ys (ids_in w back);
  sleeping =
      let k = r.first.key.0 in
      sleeping_both v front (q ∷ back) ∙ ap (λ (l : List Sleeper). l ++ (all_on q.first.key.0 (ids_of v q) ++ sleeping_of v back)) (same_sleeping w v front a)
      ∙ ap (λ (j : ℕ). sleeping_of w front ++ (all_on j (ids_of v q) ++ sleeping_of v back)) key
      ∙ ap (λ (l : List ℕ). sleeping_of w front ++ (all_on k l ++ sleeping_of v back)) e
      ∙ ap (λ (l : List Sleeper). sleeping_of w front ++ (l ++ sleeping_of v back)) (all_on_both k xs ys)
      ∙ ap (λ (l : List Sleeper). sleeping_of w front ++ ((all_on k xs ++ all_on k ys) ++ l)) (same_sleeping w v back b)
      ∙ regrouped (sleeping_of w front) (all_on k xs) (all_on k ys) (sleeping_of w back);
}

-- the ring had no other thread
gone_whole : (w v : ℕ → Option Row) (front : List Ring) (r : Ring) (back : List Ring) (t : ℕ) → AreLinked w (front ++ r ∷ back) → Same w v (ids_in w front) → Same w v (ids_in w back) → Gone w v front r.first.key.0 back t [] [] (front ++ back)
gone_whole w v front r back t c a b = record {
  linked = removed_linked w v front r back c a b;
  ids =
      ids_both v front back ∙ ap (λ (l : List ℕ). l ++ ids_in v back) (same_ids w v front a ∙ sym (append-nil (ids_in w front)))
      ∙ ap (λ (l : List ℕ). (ids_in w front ++ []) ++ l) (same_ids w v back b);
  sleeping =
      sleeping_both v front back ∙ ap (λ (l : List Sleeper). l ++ sleeping_of v back) (same_sleeping w v front a ∙ sym (append-nil (sleeping_of w front)))
      ∙ ap (λ (l : List Sleeper). (sleeping_of w front ++ []) ++ l) (same_sleeping w v back b);
}

pub gone : (w : ℕ → Option Row) (front : List Ring) (r : Ring) (back : List Ring) (t : ℕ) (xs ys : List ℕ) → AreLinked w (front ++ r ∷ back) → Once (ids_in w (front ++ r ∷ back)) → ids_of w r ≡ xs ++ t ∷ ys
    → Gone w (put (joined w (last_or t (ys ++ xs)) (first_or (ys ++ xs) t)) t None) front r.first.key.0 back t xs ys (front ++ (left_of r t (first_or (ys ++ xs) t) ++ back))
gone w front r back t xs ys c once e = go (nat_le r.count 1) refl xs ys e
  where
    parts : Once (ids_in w front) × Once (ids_of w r ++ ids_in w back) × Apart (ids_in w front) (ids_of w r ++ ids_in w back)
    parts = once_parts (ids_in w front) (ids_of w r ++ ids_in w back) (subst Once (ids_both w front (r ∷ back)) once)

    both : Once (ids_of w r) × Once (ids_in w back) × Apart (ids_of w r) (ids_in w back)
    both = once_parts (ids_of w r) (ids_in w back) parts.1

    before : Apart (ids_of w r) (ids_in w front)
    before = (apart_parts (ids_of w r) (ids_in w back) (ids_in w front) (apart_turned (ids_in w front) (ids_of w r ++ ids_in w back) parts.2)).0

    its : Between w front r back
    its = between w front r back c

    go : (b : Bool) → nat_le r.count 1 ≡ b → (xs ys : List ℕ) → ids_of w r ≡ xs ++ t ∷ ys
        → Gone w (put (joined w (last_or t (ys ++ xs)) (first_or (ys ++ xs) t)) t None) front r.first.key.0 back t xs ys (front ++ ((if b then [] else shorter r (if r.first.thread == t then first_or (ys ++ xs) t else r.first.thread) ∷ []) ++ back))
    go true s [] [] e =
        gone_whole w (put (joined w t t) t None) front r back t c
        (same_unlinked w t [] [] (ids_in w front) (subst (λ (l : List ℕ). Apart l (ids_in w front)) e before))
        (same_unlinked w t [] [] (ids_in w back) (subst (λ (l : List ℕ). Apart l (ids_in w back)) e both.2))
    go true s [] (y ∷ ys) e = absurd (let long = ap length e in let all = length_follow w r.count r.first.thread in grind (arith, nat_tests))
    go true s (x ∷ xs) ys e = absurd (let long = ap length e ∙ length-append (x ∷ xs) (t ∷ ys) in let all = length_follow w r.count r.first.thread in grind (arith, nat_tests))
    go false s xs ys e =
        let n = first_or (ys ++ xs) t in
        let v = put (joined w (last_or t (ys ++ xs)) n) t None in
        let h = if r.first.thread == t then n else r.first.thread in
        let k = r.first.key.0 in
        let o : Once (xs ++ t ∷ ys) = subst Once e both.0 in
        let ring : IsRing v k (xs ++ ys) = unlinked w k t xs ys (subst (IsRing w k) e its.ring) o in
        let first : h ≡ first_or (xs ++ ys) t = first_left xs ys t r.first.thread (sym (first_of_follow w r.count r.first.thread 0 its.some) ∙ ap (λ (l : List ℕ). first_or l 0) e) o in
        let many : r.count - 1 ≡ length (xs ++ ys) =
        (let long = sym (length_follow w r.count r.first.thread) ∙ ap length e ∙ length-append xs (t ∷ ys) in let less = length-append xs ys in omega (arith, long, less)) in
        let threads : follow v (r.count - 1) h ≡ xs ++ ys =
        ap (λ (m : ℕ). follow v m h) many ∙ ap (λ (u : ℕ). follow v (length (xs ++ ys)) u) first
        ∙ follow_linked v k (last_or 0 (xs ++ ys)) (xs ++ ys) (first_or (xs ++ ys) 0) t ring in
        gone_set w v front r (shorter r h) back t xs ys c
        (same_unlinked w t xs ys (ids_in w front) (subst (λ (l : List ℕ). Apart l (ids_in w front)) e before))
        (same_unlinked w t xs ys (ids_in w back) (subst (λ (l : List ℕ). Apart l (ids_in w back)) e both.2))
        refl (grind (arith, nat_tests)) threads ring
