-- What a bucket's rows and rings always are, and what each call does to them.
use Rattle.std.proofs.Common.{◌≡◌, ◌≢◌, ℕ, ◌+◌, ◌-◌, ◌<◌, ◌≤◌, Bool, true, false, List, [], ◌∷◌, ◌++◌, length, get_or, Option, Some, None, refl, sym, ap, ◌∙◌, subst, arith, ◌⊎◌, inl, inr, append_assoc, append-nil, length-append, eqb-true}
use Rattle.std.specs.Prelude.{◌==◌, map, All, Contains, position, slice_get, MatchBool, is_some, if◌then◌else◌}
use Rattle.std.proofs.lemmas.Bool.Decides.{nat_tests}
use Rattle.std.proofs.Math.ListN.{set}
use Rattle.std.proofs.lemmas.List.{set_at, length-map, get_or-map, get_or_at, get_or_default}
use Rattle.std.proofs.lemmas.List.Elements.{All-nil, All-cons}
use Rattle.buckets.specs.declared.row.Row.{Row}
use Rattle.buckets.specs.declared.ring.Ring.{Ring}
use Rattle.buckets.specs.declared.sleeper.Sleeper.{Sleeper}
use Rattle.buckets.specs.Queues.{Sleepers, threads_on, queue, standing, Stands, StandsNowhere, HasRoom, StandOnce, IsOrderly, Enqueues, Removes}
use Rattle.buckets.specs.Rings.{row_of, first_or, last_or, row, put, joined, behind, follow, IsRing, ids_of, all_on, sleeping_of, ids_in, NoneOn, AreLinked, NotIn, Once, left_of, AreRings, AreRows}
use Rattle.buckets.proofs.Places.{threads_on-append, threads_on-one, stands_there}
use Rattle.buckets.proofs.Changes.{bucket, orderly, nowhere, enqueues, removes_between}
use Rattle.buckets.proofs.Rows.{Apart, Same, once_more, away_less, follow_some, follow_linked, linked_same, same_put, same_appended, appended, appended_other, once_parts, apart_parts, apart_turned, put_same, put_other, joined_other, not_last_or, not_first_or, away, away_from_both, away_more, once_less, length_follow, among, its_row, rowless, slot_some, slot_none}
use Rattle.buckets.proofs.Rings.{ids_both, sleeping_both, all_on_both, threads_of, as_many, stand_once, on_same, on_none, Between, between, keyed_nowhere, Gone, gone, found_split, none_found, gone_set, pushed_linked, same_ids, same_sleeping}
use Rattle.lockword.specs.Threads.{most_threads}

-- ---- what is always so

pub has_room : (n m : ℕ) (w : ℕ → Option Row) (rs : List Ring) → AreRings n m w rs → HasRoom n (sleeping_of w rs)
has_room n m w rs a = record { first = a.first; last = a.last; enough = let many = as_many w rs in let counted = a.counted in let enough = a.enough in omega arith }

pub orderly_rings : (n m : ℕ) (w : ℕ → Option Row) (rs : List Ring) → AreRings n m w rs → IsOrderly (bucket n (sleeping_of w rs))
orderly_rings n m w rs a = orderly n (sleeping_of w rs) (has_room n m w rs a) (stand_once w rs a.once)

pub all_counted : (n m : ℕ) (w : ℕ → Option Row) (rs : List Ring) → AreRings n m w rs → length (sleeping_of w rs) ≡ m
all_counted n m w rs a = as_many w rs ∙ a.counted

-- ---- whether a thread stands

none_of : (t : ℕ) (ss : List Sleeper) → NotIn t (map (λ (s : Sleeper). s.thread) ss) → All (λ s. s.thread ≢ t) ss
none_of t [] n = All-nil (λ s. s.thread ≢ t)
none_of t (s ∷ ss) n = All-cons (λ s. s.thread ≢ t) s ss n.0 (none_of t ss n.1)

rowless_in : (w : ℕ → Option Row) (rs : List Ring) (t : ℕ) → AreLinked w rs → w t ≡ None → NotIn t (ids_in w rs)
rowless_in w [] t c is = tt
rowless_in w (r ∷ rs) t c is =
    away_from_both t (ids_of w r) (ids_in w rs) (rowless w r.first.key.0 (last_or 0 (ids_of w r)) (ids_of w r) (first_or (ids_of w r) 0) t c.1 is) (rowless_in w rs t c.3 is)

pub stands_nowhere : (n m : ℕ) (w : ℕ → Option Row) (rs : List Ring) (t : ℕ) → AreRings n m w rs → w t ≡ None → StandsNowhere (bucket n (sleeping_of w rs)) t
stands_nowhere n m w rs t a is = nowhere n t (sleeping_of w rs) (none_of t (sleeping_of w rs) (subst (NotIn t) (sym (threads_of w rs)) (rowless_in w rs t a.linked is)))

stands_at : (n t : ℕ) (ss : List Sleeper) (xs ys : List ℕ) → map (λ (s : Sleeper). s.thread) ss ≡ xs ++ t ∷ ys → Stands (bucket n ss) t
stands_at n t [] [] ys e = absurd cc
stands_at n t [] (x ∷ xs) ys e = absurd cc
stands_at n t (s ∷ ss) xs ys e =
    let i = length xs in
    let x = get_or (s ∷ ss) i s in
    let long = sym (length-map (s ∷ ss) (λ (s : Sleeper). s.thread)) ∙ ap length e ∙ length-append xs (t ∷ ys) in
    let lt : i < length (s ∷ ss) = omega (arith, long) in
    let same : x.thread ≡ t =
    sym (get_or-map (λ (s : Sleeper). s.thread) (s ∷ ss) i s t lt) ∙ ap (λ (q : List ℕ). get_or q i t) e ∙ get_or_at xs t ys t i refl in
    (x.key.0, subst (λ (u : ℕ). Contains (threads_on x.key.0 (s ∷ ss)) u) same (stands_there (s ∷ ss) i x lt (get_or_default (s ∷ ss) i s x lt)))

pub stands_somewhere : (n m : ℕ) (w : ℕ → Option Row) (rs : List Ring) (t : ℕ) (x : Row) → AreRings n m w rs → w t ≡ Some x → Stands (bucket n (sleeping_of w rs)) t
stands_somewhere n m w rs t x a is = go (among t (ids_in w rs))
  where
    go : NotIn t (ids_in w rs) ⊎ ((xs : List ℕ) × (ys : List ℕ) × (ids_in w rs ≡ xs ++ t ∷ ys)) → Stands (bucket n (sleeping_of w rs)) t
    go (inl none) = absurd (some (sym is ∙ a.idle t none))
      where
        some : {x : Row} → Some x ≡ None → ⊥
        some e = cc
    go (inr m) = stands_at n t (sleeping_of w rs) m.0 m.1 (threads_of w rs ∙ m.2)

pub stands_by_row : (n m : ℕ) (w : ℕ → Option Row) (rs : List Ring) (t : ℕ) (o : Option Row) → AreRings n m w rs → o ≡ w t → MatchBool (is_some o) (Stands (bucket n (sleeping_of w rs)) t) (StandsNowhere (bucket n (sleeping_of w rs)) t)
stands_by_row n m w rs t None a e = stands_nowhere n m w rs t a (sym e)
stands_by_row n m w rs t (Some x) a e = stands_somewhere n m w rs t x a (sym e)

-- who stands nowhere has no row, and isn't one of the threads in the rings
pub no_thread : (n m : ℕ) (w : ℕ → Option Row) (rs : List Ring) (t : ℕ) → AreRings n m w rs → StandsNowhere (bucket n (sleeping_of w rs)) t → NotIn t (ids_in w rs)
no_thread n m w rs t a h = go (among t (ids_in w rs))
  where
    go : NotIn t (ids_in w rs) ⊎ ((xs : List ℕ) × (ys : List ℕ) × (ids_in w rs ≡ xs ++ t ∷ ys)) → NotIn t (ids_in w rs)
    go (inl none) = none
    go (inr m) = let s = stands_at n t (sleeping_of w rs) m.0 m.1 (threads_of w rs ∙ m.2) in absurd (h s.0 s.1)

-- ---- the queue of a key

pub queue_of : (w : ℕ → Option Row) (front : List Ring) (r : Ring) (back : List Ring) → AreLinked w (front ++ r ∷ back) → threads_on r.first.key.0 (sleeping_of w (front ++ r ∷ back)) ≡ ids_of w r
queue_of w front r back c =
    let k = r.first.key.0 in
    let b = between w front r back c in
    ap (threads_on k) (sleeping_both w front (r ∷ back))
    ∙ threads_on-append k (sleeping_of w front) (all_on k (ids_of w r) ++ sleeping_of w back)
    ∙ ap (λ (q : List ℕ). q ++ threads_on k (all_on k (ids_of w r) ++ sleeping_of w back)) (on_none w k front b.none_before)
    ∙ threads_on-append k (all_on k (ids_of w r)) (sleeping_of w back)
    ∙ ap (λ (q : List ℕ). threads_on k (all_on k (ids_of w r)) ++ q) (on_none w k back b.none_after)
    ∙ append-nil (threads_on k (all_on k (ids_of w r)))
    ∙ on_same k (ids_of w r)

-- ---- a thread leaves

-- the thread is in the ring of its key
its_place : (n m : ℕ) (w : ℕ → Option Row) (front : List Ring) (r : Ring) (back : List Ring) (t : ℕ) (x : Row) → AreRings n m w (front ++ r ∷ back) → w t ≡ Some x → r.first.key.0 ≡ x.key.0
    → (xs : List ℕ) × (ys : List ℕ) × (ids_of w r ≡ xs ++ t ∷ ys)
its_place n m w front r back t x a is key = go (among t (ids_of w r))
  where
    go : NotIn t (ids_of w r) ⊎ ((xs : List ℕ) × (ys : List ℕ) × (ids_of w r ≡ xs ++ t ∷ ys)) → (xs : List ℕ) × (ys : List ℕ) × (ids_of w r ≡ xs ++ t ∷ ys)
    go (inr found) = found
    go (inl none) = absurd (some (sym is ∙ a.idle t nowhere))
      where
        some : {x : Row} → Some x ≡ None → ⊥
        some e = cc

        its : Between w front r back
        its = between w front r back a.linked

        nowhere : NotIn t (ids_in w (front ++ r ∷ back))
        nowhere =
            subst (NotIn t) (sym (ids_both w front (r ∷ back)))
            (away_from_both t (ids_in w front) (ids_of w r ++ ids_in w back) (keyed_nowhere w front t x its.before (subst (λ (k : ℕ). NoneOn k front) key its.none_before) is)
            (away_from_both t (ids_of w r) (ids_in w back) none (keyed_nowhere w back t x its.after (subst (λ (k : ℕ). NoneOn k back) key its.none_after) is)))

-- a thread with its key, between others
around : {A : Type 0} (a b : List A) (t : A) (c d : List A) → a ++ ((b ++ t ∷ c) ++ d) ≡ (a ++ b) ++ t ∷ (c ++ d)
around a b t c d = ap (λ q. a ++ q) (append_assoc b (t ∷ c) d) ∙ sym (append_assoc a b (t ∷ (c ++ d)))

pub leaves : (n m : ℕ) (w v : ℕ → Option Row) (front : List Ring) (r : Ring) (back : List Ring) (t : ℕ) (x : Row) → AreRings n m w (front ++ r ∷ back) → w t ≡ Some x → r.first.key.0 ≡ x.key.0
    → v ≡ put (joined w x.before x.after) t None → (rs : List Ring) → rs ≡ front ++ (left_of r t x.after ++ back)
    → AreRings n (m - 1) v rs × Removes (bucket n (sleeping_of w (front ++ r ∷ back))) (bucket n (sleeping_of v rs)) t true
leaves n m w v front r back t x a is key rows rs rings = made xs ys place.2
  where
    place : (xs : List ℕ) × (ys : List ℕ) × (ids_of w r ≡ xs ++ t ∷ ys)
    place = its_place n m w front r back t x a is key

    xs : List ℕ
    xs = place.0

    ys : List ℕ
    ys = place.1

    made : (xs ys : List ℕ) → ids_of w r ≡ xs ++ t ∷ ys → AreRings n (m - 1) v rs × Removes (bucket n (sleeping_of w (front ++ r ∷ back))) (bucket n (sleeping_of v rs)) t true
    made xs ys e = (
      record {
        first = a.first;
        last = a.last;
        enough = let enough = a.enough in omega arith;
        counted =
            let all = ap length were ∙ length-append (ids_in w front ++ xs) (t ∷ (ys ++ ids_in w back)) in
            let less = ap length now.ids ∙ length-append (ids_in w front ++ xs) (ys ++ ids_in w back) in
            let counted = a.counted in
            omega arith;
        once = subst Once (sym now.ids) (once_less (ids_in w front ++ xs) t (ys ++ ids_in w back) (subst Once were a.once));
        linked = now.linked;
        idle = λ u none. idle u (subst (NotIn u) now.ids none) (t == u) refl;
      },
      subst (λ (ss : List Sleeper). Removes (bucket n (sleeping_of w (front ++ r ∷ back))) (bucket n ss) t true) (sym now.sleeping)
          (subst (λ (ss : List Sleeper). Removes (bucket n ss) (bucket n ((sleeping_of w front ++ all_on k xs) ++ (all_on k ys ++ sleeping_of w back))) t true) (sym slept)
          (removes_between n (sleeping_of w front ++ all_on k xs) (record { thread = t; key = record { 0 = k } }) (all_on k ys ++ sleeping_of w back) (subst StandOnce slept (stand_once w (front ++ r ∷ back) a.once)))),
    )
      where
        k : ℕ
        k = r.first.key.0

        its : x ≡ row k (last_or t (ys ++ xs)) (first_or (ys ++ xs) t)
        its = the (sym is ∙ its_row w k t xs ys (subst (IsRing w k) e (between w front r back a.linked).ring))
          where
            the : {y z : Row} → Some y ≡ Some z → y ≡ z
            the s = cc

        now : Gone w v front k back t xs ys rs
        now =
            subst (λ (u : ℕ → Option Row). Gone w u front k back t xs ys rs) (sym (rows ∙ ap (λ (y : Row). put (joined w y.before y.after) t None) its))
            (subst (λ (qs : List Ring). Gone w (put (joined w (last_or t (ys ++ xs)) (first_or (ys ++ xs) t)) t None) front k back t xs ys qs)
            (sym (rings ∙ ap (λ (y : Row). front ++ (left_of r t y.after ++ back)) its)) (gone w front r back t xs ys a.linked a.once e))

        were : ids_in w (front ++ r ∷ back) ≡ (ids_in w front ++ xs) ++ t ∷ (ys ++ ids_in w back)
        were = ids_both w front (r ∷ back) ∙ ap (λ (q : List ℕ). ids_in w front ++ (q ++ ids_in w back)) e ∙ around (ids_in w front) xs t ys (ids_in w back)

        slept : sleeping_of w (front ++ r ∷ back) ≡ (sleeping_of w front ++ all_on k xs) ++ record { thread = t; key = record { 0 = k } } ∷ (all_on k ys ++ sleeping_of w back)
        slept =
            sleeping_both w front (r ∷ back) ∙ ap (λ (q : List ℕ). sleeping_of w front ++ (all_on k q ++ sleeping_of w back)) e
            ∙ ap (λ (q : List Sleeper). sleeping_of w front ++ (q ++ sleeping_of w back)) (all_on_both k xs (t ∷ ys))
            ∙ around (sleeping_of w front) (all_on k xs) (record { thread = t; key = record { 0 = k } }) (all_on k ys) (sleeping_of w back)

        idle : (u : ℕ) → NotIn u ((ids_in w front ++ xs) ++ (ys ++ ids_in w back)) → (b : Bool) → (t == u) ≡ b → v u ≡ None
        idle u none true s =
            ap (λ (f : ℕ → Option Row). f u) rows ∙ ap (put (joined w x.before x.after) t None) (sym (eqb-true t u s)) ∙ put_same (joined w x.before x.after) t None
        idle u none false s =
            let o : t ≢ u = λ e. absurd (grind (arith, nat_tests)) in
            let p = away u (ids_in w front ++ xs) (ys ++ ids_in w back) none in
            let p0 = away u (ids_in w front) xs p.0 in
            let p1 = away u ys (ids_in w back) p.1 in
            let zs = away_from_both u ys xs p1.0 p0.1 in
            ap (λ (f : ℕ → Option Row). f u) (rows ∙ ap (λ (y : Row). put (joined w y.before y.after) t None) its)
            ∙ put_other (joined w (last_or t (ys ++ xs)) (first_or (ys ++ xs) t)) t None u (λ e. o (sym e))
            ∙ joined_other w (last_or t (ys ++ xs)) (first_or (ys ++ xs) t) u (not_last_or u t (ys ++ xs) (λ e. o (sym e)) zs) (not_first_or u t (ys ++ xs) (λ e. o (sym e)) zs)
            ∙ a.idle u (subst (NotIn u) (sym were) (away_more u (ids_in w front ++ xs) t (ys ++ ids_in w back) none o))

-- the same where the ring is found by its key
pub leaves_at : (n m : ℕ) (w v : ℕ → Option Row) (rs : List Ring) (i t : ℕ) (x : Row) → AreRings n m w rs → w t ≡ Some x → position (λ r. r.first.key.0 == x.key.0) rs ≡ Some i
    → v ≡ put (joined w x.before x.after) t None → (qs : List Ring) → ((front back : List Ring) (r : Ring) → length front ≡ i → rs ≡ front ++ r ∷ back → qs ≡ front ++ (left_of r t x.after ++ back))
    → AreRings n (m - 1) v qs × Removes (bucket n (sleeping_of w rs)) (bucket n (sleeping_of v qs)) t true
leaves_at n m w v rs i t x a is at rows qs left =
    let s = found_split (λ r. r.first.key.0 == x.key.0) rs i at in
    let made = leaves n m w v s.0 s.1 s.2 t x (subst (AreRings n m w) s.4 a) is (eqb-true s.1.first.key.0 x.key.0 s.5) rows qs (left s.0 s.2 s.1 s.3 s.4) in
    (made.0, subst (λ (l : List Ring). Removes (bucket n (sleeping_of w l)) (bucket n (sleeping_of v qs)) t true) (sym s.4) made.1)

-- a thread with a row is in a ring
pub has_ring : (n m : ℕ) (w : ℕ → Option Row) (rs : List Ring) (t : ℕ) (x : Row) → AreRings n m w rs → w t ≡ Some x → position (λ r. r.first.key.0 == x.key.0) rs ≡ None → ⊥
has_ring n m w rs t x a is none = some (sym is ∙ a.idle t (keyed_nowhere w rs t x a.linked (none_found x.key.0 rs none) is))
  where
    some : {x : Row} → Some x ≡ None → ⊥
    some e = cc

-- ---- a thread comes

-- a sleeper between others, of whom those after it sleep on other keys
pub enqueues_between : (n : ℕ) (xs : List Sleeper) (s : Sleeper) (ys : List Sleeper) → threads_on s.key.0 ys ≡ [] → Enqueues (bucket n (xs ++ ys)) (bucket n (xs ++ s ∷ ys)) s.thread s.key.0
enqueues_between n xs s ys none = record {
  queues = λ j.
      threads_on-append j xs (s ∷ ys)
      ∙ ap (λ (q : List ℕ). threads_on j xs ++ q) (threads_on-append j (s ∷ []) ys ∙ ap (λ (q : List ℕ). q ++ threads_on j ys) (threads_on-one j s))
      ∙ go j (s.key.0 == j) (j == s.key.0) (turned s.key.0 j) refl;
  one_more = let long = length-append xs (s ∷ ys) in let short = length-append xs ys in omega arith;
  capacity = refl;
}
  where
    turned : (a b : ℕ) → (a == b) ≡ (b == a)
    turned a b = grind (arith, nat_tests)

    go : (j : ℕ) (b c : Bool) → b ≡ c → (j == s.key.0) ≡ c → threads_on j xs ++ ((if b then s.thread ∷ [] else []) ++ threads_on j ys) ≡ (if c then threads_on j (xs ++ ys) ++ s.thread ∷ [] else threads_on j (xs ++ ys))
    go j true true e is =
        let empty : threads_on j ys ≡ [] = ap (λ (k : ℕ). threads_on k ys) (eqb-true j s.key.0 is) ∙ none in
        ap (λ (q : List ℕ). threads_on j xs ++ (s.thread ∷ q)) empty
        ∙ sym (ap (λ (q : List ℕ). q ++ s.thread ∷ []) (threads_on-append j xs ys ∙ ap (λ (q : List ℕ). threads_on j xs ++ q) empty ∙ append-nil (threads_on j xs)))
    go j false false e is = sym (threads_on-append j xs ys)
    go j true false e is = absurd cc
    go j false true e is = absurd cc

-- a thread more, between others
more_rings : (n m : ℕ) (w v : ℕ → Option Row) (rs qs : List Ring) (t : ℕ) (xs ys : List ℕ) → AreRings n m w rs → m < n → NotIn t (ids_in w rs) → ids_in w rs ≡ xs ++ ys → ids_in v qs ≡ xs ++ t ∷ ys
    → AreLinked v qs → ((u : ℕ) → t ≢ u → NotIn u (ids_in w rs) → v u ≡ w u) → AreRings n (m + 1) v qs
more_rings n m w v rs qs t xs ys a lt new were now linked same = record {
  first = a.first;
  last = a.last;
  enough = omega (arith, lt);
  counted =
      let all = ap length now ∙ length-append xs (t ∷ ys) in
      let less = ap length were ∙ length-append xs ys in
      let counted = a.counted in
      omega arith;
  once = subst Once (sym now) (once_more xs t ys (subst Once were a.once) (subst (NotIn t) were new));
  linked = linked;
  idle = λ u none.
      let m = away_less u xs t ys (subst (NotIn u) now none) in
      let out = subst (NotIn u) (sym were) m.1 in
      same u m.0 out ∙ a.idle u out;
}

-- a ring with a thread more
abbrev pub longer : Ring → Ring
longer r = record { first = r.first; count = r.count + 1 }

-- the thread becomes the last of a ring
pub joins_ring : (n m : ℕ) (w v : ℕ → Option Row) (front : List Ring) (r : Ring) (back : List Ring) (t : ℕ) → AreRings n m w (front ++ r ∷ back) → m < n → NotIn t (ids_in w (front ++ r ∷ back))
    → v ≡ behind (put w t (Some (row r.first.key.0 t t)) r.first.thread) (put w t (Some (row r.first.key.0 t t))) t r.first.thread
    → AreRings n (m + 1) v (front ++ longer r ∷ back) × Enqueues (bucket n (sleeping_of w (front ++ r ∷ back))) (bucket n (sleeping_of v (front ++ longer r ∷ back))) t r.first.key.0
joins_ring n m w v front r back t a lt new rows = made some.0 some.1
  where
    its : Between w front r back
    its = between w front r back a.linked

    some : (ts : List ℕ) × (ids_of w r ≡ r.first.thread ∷ ts)
    some = follow_some w r.count r.first.thread its.some

    parts : Once (ids_in w front) × Once (ids_of w r ++ ids_in w back) × Apart (ids_in w front) (ids_of w r ++ ids_in w back)
    parts = once_parts (ids_in w front) (ids_of w r ++ ids_in w back) (subst Once (ids_both w front (r ∷ back)) a.once)

    both : Once (ids_of w r) × Once (ids_in w back) × Apart (ids_of w r) (ids_in w back)
    both = once_parts (ids_of w r) (ids_in w back) parts.1

    before : Apart (ids_of w r) (ids_in w front)
    before = (apart_parts (ids_of w r) (ids_in w back) (ids_in w front) (apart_turned (ids_in w front) (ids_of w r ++ ids_in w back) parts.2)).0

    out : NotIn t (ids_in w front) × NotIn t (ids_of w r ++ ids_in w back)
    out = away t (ids_in w front) (ids_of w r ++ ids_in w back) (subst (NotIn t) (ids_both w front (r ∷ back)) new)

    out' : NotIn t (ids_of w r) × NotIn t (ids_in w back)
    out' = away t (ids_of w r) (ids_in w back) out.1

    k : ℕ
    k = r.first.key.0

    f : ℕ
    f = r.first.thread

    s : Sleeper
    s = record { thread = t; key = record { 0 = k } }

    made : (ts : List ℕ) → ids_of w r ≡ f ∷ ts → AreRings n (m + 1) v (front ++ longer r ∷ back) × Enqueues (bucket n (sleeping_of w (front ++ r ∷ back))) (bucket n (sleeping_of v (front ++ longer r ∷ back))) t k
    made ts e = (
      more_rings n m w v (front ++ r ∷ back) (front ++ longer r ∷ back) t (ids_in w front ++ f ∷ ts) (ids_in w back) a lt new were now.ids now.linked same,
      subst (λ (ss : List Sleeper). Enqueues (bucket n (sleeping_of w (front ++ r ∷ back))) (bucket n ss) t k) (sym now.sleeping)
          (subst (λ (ss : List Sleeper). Enqueues (bucket n ss) (bucket n ((sleeping_of w front ++ all_on k (f ∷ ts)) ++ s ∷ sleeping_of w back)) t k) (sym slept)
          (enqueues_between n (sleeping_of w front ++ all_on k (f ∷ ts)) s (sleeping_of w back) (on_none w k back its.none_after))),
    )
      where
        u : ℕ → Option Row
        u = put w t (Some (row k t t))

        z : ℕ → Option Row
        z = joined (joined u (last_or f ts) t) t f

        ring : IsRing w k (f ∷ ts)
        ring = subst (IsRing w k) e its.ring

        once : Once (f ∷ ts)
        once = subst Once e both.0

        none : NotIn t (f ∷ ts)
        none = subst (NotIn t) e out'.0

        v_is : v ≡ z
        v_is = rows ∙ ap (λ (o : Option Row). behind o u t f) (put_other w t (Some (row k t t)) f none.0 ∙ ring.0)

        closed : IsRing z k ((f ∷ ts) ++ t ∷ [])
        closed =
            appended u k t f ts (linked_same w u k (last_or f ts) (f ∷ ts) f (same_put w t (Some (row k t t)) (f ∷ ts) none) ring) once none
            (put_same w t (Some (row k t t)))

        threads : ids_of z (longer r) ≡ (f ∷ ts) ++ t ∷ []
        threads =
            ap (λ (c : ℕ). follow z c f)
            (let long = sym (length_follow w r.count f) ∙ ap length e in let more = length-append (f ∷ ts) (t ∷ []) in many long more)
            ∙ follow_linked z k (last_or 0 ((f ∷ ts) ++ t ∷ [])) ((f ∷ ts) ++ t ∷ []) f 0 closed
          where
            many : r.count ≡ length (f ∷ ts) → length ((f ∷ ts) ++ t ∷ []) ≡ length (f ∷ ts) + 1 → r.count + 1 ≡ length ((f ∷ ts) ++ t ∷ [])
            many a b = omega (arith, a, b)

        now : Gone w v front k back t (f ∷ ts) (t ∷ []) (front ++ longer r ∷ back)
        now =
            subst (λ (y : ℕ → Option Row). Gone w y front k back t (f ∷ ts) (t ∷ []) (front ++ longer r ∷ back)) (sym v_is)
            (gone_set w z front r (longer r) back t (f ∷ ts) (t ∷ []) a.linked
            (same_appended w t f ts (Some (row k t t)) (ids_in w front) out.0 (subst (λ (l : List ℕ). Apart l (ids_in w front)) e before))
            (same_appended w t f ts (Some (row k t t)) (ids_in w back) out'.1 (subst (λ (l : List ℕ). Apart l (ids_in w back)) e both.2))
            refl (let some = its.some in omega arith) threads closed)

        were : ids_in w (front ++ r ∷ back) ≡ (ids_in w front ++ f ∷ ts) ++ ids_in w back
        were = ids_both w front (r ∷ back) ∙ ap (λ (q : List ℕ). ids_in w front ++ (q ++ ids_in w back)) e ∙ sym (append_assoc (ids_in w front) (f ∷ ts) (ids_in w back))

        slept : sleeping_of w (front ++ r ∷ back) ≡ (sleeping_of w front ++ all_on k (f ∷ ts)) ++ sleeping_of w back
        slept =
            sleeping_both w front (r ∷ back) ∙ ap (λ (q : List ℕ). sleeping_of w front ++ (all_on k q ++ sleeping_of w back)) e
            ∙ sym (append_assoc (sleeping_of w front) (all_on k (f ∷ ts)) (sleeping_of w back))

        same : (x : ℕ) → t ≢ x → NotIn x (ids_in w (front ++ r ∷ back)) → v x ≡ w x
        same x o n =
            let mine = away x (ids_in w front ++ f ∷ ts) (ids_in w back) (subst (NotIn x) were n) in
            ap (λ (y : ℕ → Option Row). y x) v_is ∙ appended_other w t f ts (Some (row k t t)) x o (away x (ids_in w front) (f ∷ ts) mine.0).1

-- the thread begins a ring
pub begins_ring : (n m : ℕ) (w v : ℕ → Option Row) (rs qs : List Ring) (t k : ℕ) → AreRings n m w rs → m < n → NotIn t (ids_in w rs) → NoneOn k rs → v ≡ put w t (Some (row k t t))
    → qs ≡ rs ++ record { first = record { thread = t; key = record { 0 = k } }; count = 1 } ∷ [] → AreRings n (m + 1) v qs × Enqueues (bucket n (sleeping_of w rs)) (bucket n (sleeping_of v qs)) t k
begins_ring n m w v rs qs t k a lt new none rows rings = (
  more_rings n m w v rs qs t (ids_in w rs) [] a lt new (sym (append-nil (ids_in w rs)))
      (ap (λ (y : ℕ → Option Row). ids_in y qs) rows ∙ ap (ids_in z) rings ∙ ids_both z rs (q ∷ []) ∙ ap (λ (l : List ℕ). l ++ t ∷ []) (same_ids w z rs others))
      (subst (λ (y : ℕ → Option Row). AreLinked y qs) (sym rows) (subst (AreLinked z) (sym rings) (pushed_linked w z rs q a.linked none others (omega arith) (put_same w t (Some (row k t t)), tt))))
      (λ x o n. ap (λ (y : ℕ → Option Row). y x) rows ∙ put_other w t (Some (row k t t)) x (λ e. o (sym e))),
  subst (λ (ss : List Sleeper). Enqueues (bucket n (sleeping_of w rs)) (bucket n ss) t k)
      (sym (ap (λ (y : ℕ → Option Row). sleeping_of y qs) rows ∙ ap (sleeping_of z) rings ∙ sleeping_both z rs (q ∷ []) ∙ ap (λ (l : List Sleeper). l ++ q.first ∷ []) (same_sleeping w z rs others)))
      (enqueues n (sleeping_of w rs) q.first),
)
  where
    z : ℕ → Option Row
    z = put w t (Some (row k t t))

    q : Ring
    q = record { first = record { thread = t; key = record { 0 = k } }; count = 1 }

    others : Same w z (ids_in w rs)
    others = same_put w t (Some (row k t t)) (ids_in w rs) new

-- there are no more rings than threads, and none is longer than all
rings_few : (w : ℕ → Option Row) (rs : List Ring) → AreLinked w rs → length rs ≤ length (ids_in w rs)
rings_few w [] c = omega arith
rings_few w (r ∷ rs) c =
    let few = rings_few w rs c.3 in
    let long = length-append (ids_of w r) (ids_in w rs) in
    let mine = length_follow w r.count r.first.thread in
    let some = c.0 in
    omega arith

pub few_rings : (n m : ℕ) (w : ℕ → Option Row) (rs : List Ring) → AreRings n m w rs → length rs ≤ m
few_rings n m w rs a = let few = rings_few w rs a.linked in let counted = a.counted in omega arith

pub short_ring : (n m : ℕ) (w : ℕ → Option Row) (front : List Ring) (r : Ring) (back : List Ring) → AreRings n m w (front ++ r ∷ back) → r.count ≤ m
short_ring n m w front r back a =
    let all = ap length (ids_both w front (r ∷ back)) ∙ length-append (ids_in w front) (ids_of w r ++ ids_in w back) in
    let long = length-append (ids_of w r) (ids_in w back) in
    let mine = length_follow w r.count r.first.thread in
    let counted = a.counted in
    omega arith

-- the ring that is found by its key
found_ring : (rs : List Ring) (i : ℕ) (x : Ring) (front : List Ring) (r : Ring) (back : List Ring) → x ≡ get_or rs i x → length front ≡ i → rs ≡ front ++ r ∷ back → x ≡ r
found_ring rs i x front r back at long is = at ∙ ap (λ (q : List Ring). get_or q i x) is ∙ get_or_at front r back x i long

pub joins_at : (n m : ℕ) (w v : ℕ → Option Row) (rs : List Ring) (i t k : ℕ) (x : Ring) → AreRings n m w rs → m < n → NotIn t (ids_in w rs) → position (λ r. r.first.key.0 == k) rs ≡ Some i → x ≡ get_or rs i x
    → v ≡ behind (put w t (Some (row k t t)) x.first.thread) (put w t (Some (row k t t))) t x.first.thread
    → AreRings n (m + 1) v (set rs i (longer x)) × Enqueues (bucket n (sleeping_of w rs)) (bucket n (sleeping_of v (set rs i (longer x)))) t k
joins_at n m w v rs i t k x a lt new at here rows =
    let s = found_split (λ r. r.first.key.0 == k) rs i at in
    let front = s.0 in
    let r = s.1 in
    let back = s.2 in
    let it : x ≡ r = found_ring rs i x front r back here s.3 s.4 in
    let key : r.first.key.0 ≡ k = eqb-true r.first.key.0 k s.5 in
    let qs : set rs i (longer x) ≡ front ++ longer r ∷ back = ap (λ (q : List Ring). set q i (longer x)) s.4 ∙ set_at front r back (longer x) i s.3 ∙ ap (λ (y : Ring). front ++ longer y ∷ back) it in
    let rows' : v ≡ behind (put w t (Some (row r.first.key.0 t t)) r.first.thread) (put w t (Some (row r.first.key.0 t t))) t r.first.thread =
    rows ∙ ap (λ (y : Ring). behind (put w t (Some (row k t t)) y.first.thread) (put w t (Some (row k t t))) t y.first.thread) it
    ∙ ap (λ (j : ℕ). behind (put w t (Some (row j t t)) r.first.thread) (put w t (Some (row j t t))) t r.first.thread) (sym key) in
    let made = joins_ring n m w v front r back t (subst (AreRings n m w) s.4 a) lt (subst (λ (l : List Ring). NotIn t (ids_in w l)) s.4 new) rows' in (
      subst (AreRings n (m + 1) v) (sym qs) made.0,
      subst (λ (l : List Ring). Enqueues (bucket n (sleeping_of w l)) (bucket n (sleeping_of v (set rs i (longer x)))) t k) (sym s.4)
          (subst (λ (l : List Ring). Enqueues (bucket n (sleeping_of w (front ++ r ∷ back))) (bucket n (sleeping_of v l)) t k) (sym qs)
          (subst (Enqueues (bucket n (sleeping_of w (front ++ r ∷ back))) (bucket n (sleeping_of v (front ++ longer r ∷ back))) t) key made.1)),
    )

pub short_at : (n m : ℕ) (w : ℕ → Option Row) (rs : List Ring) (i k : ℕ) (x : Ring) → AreRings n m w rs → position (λ r. r.first.key.0 == k) rs ≡ Some i → x ≡ get_or rs i x → x.count ≤ m
short_at n m w rs i k x a at here =
    let s = found_split (λ r. r.first.key.0 == k) rs i at in
    subst (λ (y : Ring). y.count ≤ m) (sym (found_ring rs i x s.0 s.1 s.2 here s.3 s.4)) (short_ring n m w s.0 s.1 s.2 (subst (AreRings n m w) s.4 a))

pub queue_at : (n m : ℕ) (w : ℕ → Option Row) (rs : List Ring) (i k : ℕ) (x : Ring) → AreRings n m w rs → position (λ r. r.first.key.0 == k) rs ≡ Some i → x ≡ get_or rs i x → threads_on k (sleeping_of w rs) ≡ ids_of w x
queue_at n m w rs i k x a at here =
    let s = found_split (λ r. r.first.key.0 == k) rs i at in
    let it = found_ring rs i x s.0 s.1 s.2 here s.3 s.4 in
    ap (λ (j : ℕ). threads_on j (sleeping_of w rs)) (sym (eqb-true s.1.first.key.0 k s.5)) ∙ ap (λ (l : List Ring). threads_on s.1.first.key.0 (sleeping_of w l)) s.4
    ∙ queue_of w s.0 s.1 s.2 (subst (λ (l : List Ring). AreLinked w l) s.4 a.linked) ∙ ap (ids_of w) (sym it)

pub queue_none : (w : ℕ → Option Row) (rs : List Ring) (k : ℕ) → position (λ r. r.first.key.0 == k) rs ≡ None → threads_on k (sleeping_of w rs) ≡ []
queue_none w rs k e = on_none w k rs (none_found k rs e)

pub some_at : (n m : ℕ) (w : ℕ → Option Row) (rs : List Ring) (i k : ℕ) (x : Ring) → AreRings n m w rs → position (λ r. r.first.key.0 == k) rs ≡ Some i → x ≡ get_or rs i x → 1 ≤ x.count
some_at n m w rs i k x a at here =
    let s = found_split (λ r. r.first.key.0 == k) rs i at in
    subst (λ (y : Ring). 1 ≤ y.count) (sym (found_ring rs i x s.0 s.1 s.2 here s.3 s.4)) (between w s.0 s.1 s.2 (subst (λ (l : List Ring). AreLinked w l) s.4 a.linked)).some

-- what a bucket's value says of its fields
pub room_for_one : (n m : ℕ) (w : ℕ → Option Row) (rs : List Ring) (b : Sleepers) → AreRings n m w rs → bucket n (sleeping_of w rs) ≡ b → standing b < b.capacity → m < n
room_for_one n m w rs b a is lt =
    let few : length (sleeping_of w rs) < n = subst (λ (s : Sleepers). standing s < s.capacity) (sym is) lt in
    let all = all_counted n m w rs a in
    omega arith

pub new_thread : (n m : ℕ) (w : ℕ → Option Row) (rs : List Ring) (t : ℕ) (b : Sleepers) → AreRings n m w rs → bucket n (sleeping_of w rs) ≡ b → StandsNowhere b t → NotIn t (ids_in w rs)
new_thread n m w rs t b a is h = no_thread n m w rs t a (subst (λ (s : Sleepers). StandsNowhere s t) (sym is) h)

pub queue_here : (n m : ℕ) (w : ℕ → Option Row) (rs : List Ring) (i k : ℕ) (x : Ring) (b : Sleepers) → AreRings n m w rs → bucket n (sleeping_of w rs) ≡ b → position (λ r. r.first.key.0 == k) rs ≡ Some i → x ≡ get_or rs i x → queue b k ≡ ids_of w x
queue_here n m w rs i k x b a is at here = ap (λ (s : Sleepers). queue s k) (sym is) ∙ queue_at n m w rs i k x a at here

pub queue_nowhere : (n : ℕ) (w : ℕ → Option Row) (rs : List Ring) (k : ℕ) (b : Sleepers) → bucket n (sleeping_of w rs) ≡ b → position (λ r. r.first.key.0 == k) rs ≡ None → queue b k ≡ []
queue_nowhere n w rs k b is none = ap (λ (s : Sleepers). queue s k) (sym is) ∙ queue_none w rs k none

pub first_here : (w : ℕ → Option Row) (x : Ring) (q : List ℕ) → 1 ≤ x.count → q ≡ ids_of w x → Some x.first.thread ≡ slice_get q 0
first_here w x q some is = let m = follow_some w x.count x.first.thread some in sym (ap (λ (l : List ℕ). slice_get l 0) (is ∙ m.1))

pub few_asleep : (n m : ℕ) (w : ℕ → Option Row) (rs : List Ring) → AreRings n m w rs → length (sleeping_of w rs) ≤ most_threads
few_asleep n m w rs a = let room = has_room n m w rs a in let last = room.last in let enough = room.enough in omega arith

-- ---- a new bucket, and the rows

pub no_rings : (n : ℕ) (w : ℕ → Option Row) → 1 ≤ n → n ≤ most_threads → ((t : ℕ) → w t ≡ None) → AreRings n 0 w []
no_rings n w first last none = record { first = first; last = last; enough = omega arith; counted = refl; once = tt; linked = tt; idle = λ t out. none t }

pub are_rows : (n m : ℕ) (rows : List (Option Row)) (rs : List Ring) (b : Sleepers) → AreRings n m (row_of rows) rs → length rows ≡ most_threads → bucket n (sleeping_of (row_of rows) rs) ≡ b → AreRows rows b
are_rows n m rows rs b a long is = record {
  long = long;
  awake = λ t first last h. slot_none rows t first (omega (arith, last, long)) (a.idle t (new_thread n m (row_of rows) rs t b a is h));
  asleep = λ k t earlier later e. slot_some rows t (row k (last_or t (later ++ earlier)) (first_or (later ++ earlier) t)) (its k t earlier later (ap (λ (s : Sleepers). queue s k) is ∙ e) (position (λ r. r.first.key.0 == k) rs) refl);
}
  where
    its : (k t : ℕ) (xs ys : List ℕ) → threads_on k (sleeping_of (row_of rows) rs) ≡ xs ++ t ∷ ys → (o : Option ℕ) → position (λ r. r.first.key.0 == k) rs ≡ o → row_of rows t ≡ Some (row k (last_or t (ys ++ xs)) (first_or (ys ++ xs) t))
    its k t xs ys e None none = absurd (empty xs (sym (queue_none (row_of rows) rs k none) ∙ e))
      where
        empty : (xs : List ℕ) → [] ≡ xs ++ t ∷ ys → ⊥
        empty [] e = cc
        empty (x ∷ xs) e = cc
    its k t xs ys e (Some i) at =
        let w = row_of rows in
        let s = found_split (λ r. r.first.key.0 == k) rs i at in
        let r = s.1 in
        let key : r.first.key.0 ≡ k = eqb-true r.first.key.0 k s.5 in
        let linked : AreLinked w (s.0 ++ r ∷ s.2) = subst (λ (l : List Ring). AreLinked w l) s.4 a.linked in
        let ids : ids_of w r ≡ xs ++ t ∷ ys =
        sym (queue_of w s.0 r s.2 linked) ∙ ap (λ (l : List Ring). threads_on r.first.key.0 (sleeping_of w l)) (sym s.4) ∙ ap (λ (j : ℕ). threads_on j (sleeping_of w rs)) key ∙ e in
        its_row w k t xs ys (subst (λ (j : ℕ). IsRing w j (xs ++ t ∷ ys)) key (subst (IsRing w r.first.key.0) ids (between w s.0 r s.2 linked).ring))
