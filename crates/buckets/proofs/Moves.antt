-- What a requeue does to the queues: some are taken out of one and put at the end of another.
use Rattle.std.proofs.Common.{◌≡◌, ◌≢◌, ℕ, ◌+◌, ◌<◌, ◌≤◌, Bool, true, false, List, [], ◌∷◌, ◌++◌, length, get_or, take, drop, Option, Some, None, refl, sym, ap, ◌∙◌, subst, ◌⊎◌, inl, inr, arith, append-nil, eqb-true}
use Rattle.std.specs.Prelude.{◌==◌, min, slice_get, All, AllPairs, Contains, if◌then◌else◌}
use Rattle.std.proofs.lemmas.Bool.Decides.{nat_tests}
use Rattle.std.proofs.lemmas.Bool.{eqb-false}
use Rattle.std.proofs.lemmas.List.{append_assoc, length-append, length-take, length-drop, get_or-take, get_or-drop, take_min, take_more}
use Rattle.std.proofs.lemmas.List.Elements.{All-contains, All-weaker, All-take, All-push, All-get_or, All-contains_itself, Contains-append_cases}
use Rattle.std.proofs.lemmas.Option.{get_or_from_slice_get, slice_get_within, slice_get-get_or}
use Rattle.buckets.specs.Queues.{Sleepers, queue, standing, Stands, StandsNowhere, IsOrderly, Enqueues, Takes, Joins, MovesWithin, Fits}

-- ---- the first of a queue, and the others

pub contains_take : (n : ℕ) (ids : List ℕ) (t : ℕ) → Contains (take n ids) t → Contains ids t
contains_take n ids t c = All-contains (Contains ids) (take n ids) t (All-take (Contains ids) n ids (All-contains_itself ids)) c

-- the first are all different
pub once_take : (n : ℕ) (ids : List ℕ) → AllPairs (λ t u. t ≢ u) ids → AllPairs (λ t u. t ≢ u) (take n ids)
once_take n ids once i j d lt in' same =
    let len = length-take n ids in
    let below : j < n = omega (arith, len, in') in
    once i j d lt (omega (arith, len, in')) (sym (get_or-take n ids i d (omega (arith, below, lt))) ∙ same ∙ get_or-take n ids j d below)

-- none of them is among the others
pub none_left : (n : ℕ) (ids : List ℕ) (t : ℕ) → AllPairs (λ u v. u ≢ v) ids → Contains (take n ids) t → ¬ Contains (drop n ids) t
none_left n ids t once a b =
    let taken = length-take n ids in
    let left = length-drop n ids in
    let below : a.0 < n = omega (arith, taken, a.1) in
    once a.0 (n + b.0) t (omega (arith, below)) (omega (arith, left, b.1)) (sym (get_or-take n ids a.0 t below) ∙ a.2 ∙ sym (sym (get_or-drop n ids b.0 t) ∙ b.2))

-- ---- those who were taken

pub taken_once : (a b : Sleepers) (key n : ℕ) (moved : List ℕ) → IsOrderly a → Takes a b key n moved → AllPairs (λ t u. t ≢ u) moved
taken_once a b key n moved o e = subst (AllPairs (λ t u. t ≢ u)) (sym e.firsts) (once_take n (queue a key) (o.one_place key))

pub taken_nowhere : (a b : Sleepers) (key n : ℕ) (moved : List ℕ) → IsOrderly a → Takes a b key n moved → All (StandsNowhere b) moved
taken_nowhere a b key n moved o e = All-weaker (Contains moved) (StandsNowhere b) (λ t m k c. gone t k (subst (λ (q : List ℕ). Contains q t) e.firsts m) (k == key) refl (subst (λ (q : List ℕ). Contains q t) (e.queues k) c)) moved (All-contains_itself moved)
  where
    gone : (t k : ℕ) → Contains (take n (queue a key)) t → (d : Bool) → (k == key) ≡ d → ¬ Contains (if d then drop n (queue a k) else queue a k) t
    gone t k m true same c = none_left n (queue a key) t (o.one_place key) m (subst (λ (j : ℕ). Contains (drop n (queue a j)) t) (eqb-true _ _ same) c)
    gone t k m false same c = eqb-false k key same (o.one_queue t k key c (contains_take n (queue a key) t m))

-- ---- putting one after another at the end

pub joins_none : (b : Sleepers) (key : ℕ) → Joins b b [] key
joins_none b key = record { queues = λ k. go (k == key) (queue b k); more = omega arith; capacity = refl }
  where
    go : (c : Bool) (q : List ℕ) → q ≡ (if c then q ++ [] else q)
    go true q = sym (append-nil q)
    go false q = refl

-- there is somebody at each place
pub somebody : (ids : List ℕ) (i : ℕ) (r : Option ℕ) → r ≡ slice_get ids i → i < length ids → r ≡ None → ⊥
somebody ids i None is lt none = let there = slice_get-get_or ids i 0 lt in absurd cc
somebody ids i (Some t) is lt none = absurd cc

-- the thread at a place
one_more : (ids : List ℕ) (i t : ℕ) → slice_get ids i ≡ Some t → take (i + 1) ids ≡ take i ids ++ t ∷ []
one_more ids i t e = take_more ids i t (slice_get_within ids i t e) ∙ ap (λ (u : ℕ). take i ids ++ u ∷ []) (get_or_from_slice_get ids i t t e)

pub joins_more : (a b c : Sleepers) (ids : List ℕ) (i t key : ℕ) → slice_get ids i ≡ Some t → Joins a b (take i ids) key → Enqueues b c t key → Joins a c (take (i + 1) ids) key
joins_more a b c ids i t key e before now = subst (λ (q : List ℕ). Joins a c q key) (sym (one_more ids i t e)) (record {
  queues = λ k. now.queues k ∙ go k (k == key) (before.queues k);
  more = let len = length-append (take i ids) (t ∷ []) in let x = before.more in let y = now.one_more in omega arith;
  capacity = now.capacity ∙ before.capacity;
})
  where
    go : (k : ℕ) (d : Bool) → queue b k ≡ (if d then queue a k ++ take i ids else queue a k) → (if d then queue b k ++ t ∷ [] else queue b k) ≡ (if d then queue a k ++ (take i ids ++ t ∷ []) else queue a k)
    go k true h = ap (λ (q : List ℕ). q ++ t ∷ []) h ∙ append_assoc (queue a k) (take i ids) (t ∷ [])
    go k false h = h

-- the next one stands in no queue yet
pub next_nowhere : (a b : Sleepers) (ids : List ℕ) (i t key : ℕ) → slice_get ids i ≡ Some t → All (StandsNowhere a) ids → AllPairs (λ u v. u ≢ v) ids → Joins a b (take i ids) key → StandsNowhere b t
next_nowhere a b ids i t key e awake once before k c = go (k == key) (subst (λ (q : List ℕ). Contains q t) (before.queues k) c)
  where
    lt : i < length ids
    lt = slice_get_within ids i t e

    is : get_or ids i t ≡ t
    is = get_or_from_slice_get ids i t t e

    nowhere : StandsNowhere a t
    nowhere = subst (StandsNowhere a) is (All-get_or (StandsNowhere a) ids i t lt awake)

    earlier : Contains (queue a k) t ⊎ Contains (take i ids) t → ⊥
    earlier (inl old) = nowhere k old
    earlier (inr new) =
        let len = length-take i ids in
        let below : new.0 < i = omega (arith, len, new.1) in
        once new.0 i t below lt (sym (get_or-take i ids new.0 t below) ∙ new.2 ∙ sym is)

    go : (d : Bool) → ¬ Contains (if d then queue a k ++ take i ids else queue a k) t
    go true m = earlier (Contains-append_cases (queue a k) (take i ids) t m)
    go false m = nowhere k m

-- ---- a requeue within one bucket

pub moves_within : (a b c : Sleepers) (key n to : ℕ) (moved : List ℕ) → key ≢ to → Takes a b key n moved → Joins b c moved to → MovesWithin a c key n to moved
moves_within a b c key n to moved ne out in' = record {
  firsts = out.firsts;
  left = stays key ne ∙ taken;
  joined = put ∙ ap (λ (q : List ℕ). q ++ moved) (kept to (λ same. ne (sym same)));
  others = λ k other last. stays k last ∙ kept k other;
  as_many = let fewer = out.fewer in let more = in'.more in omega arith;
  capacity = in'.capacity ∙ out.capacity;
}
  where
    differ : (k j : ℕ) → k ≢ j → (k == j) ≡ false
    differ k j h = grind (arith, nat_tests)

    same : (k : ℕ) → (k == k) ≡ true
    same k = grind (arith, nat_tests)

    stays : (k : ℕ) → k ≢ to → queue c k ≡ queue b k
    stays k h = subst (λ (d : Bool). queue c k ≡ (if d then queue b k ++ moved else queue b k)) (differ k to h) (in'.queues k)

    kept : (k : ℕ) → k ≢ key → queue b k ≡ queue a k
    kept k h = subst (λ (d : Bool). queue b k ≡ (if d then drop n (queue a k) else queue a k)) (differ k key h) (out.queues k)

    taken : queue b key ≡ drop n (queue a key)
    taken = subst (λ (d : Bool). queue b key ≡ (if d then drop n (queue a key) else queue a key)) (same key) (out.queues key)

    put : queue c to ≡ queue b to ++ moved
    put = subst (λ (d : Bool). queue c to ≡ (if d then queue b to ++ moved else queue b to)) (same to) (in'.queues to)

-- ---- those that another bucket is to get

pub fitting_nowhere : (a b other : Sleepers) (key n : ℕ) (moved : List ℕ) → Fits a other key n → Takes a b key n moved → All (StandsNowhere other) moved
fitting_nowhere a b other key n moved fits e = subst (All (StandsNowhere other)) (sym e.firsts) fits.awake

-- as many as there are of the first n
pub least : (n m : ℕ) (ids : List ℕ) → m ≡ min n (length ids) → take m ids ≡ take n ids
least n m ids is = ap (λ (i : ℕ). take i ids) is ∙ take_min n ids

pub unfit_asleep : (b other : Sleepers) (key n i t : ℕ) → i < min n (length (queue b key)) → slice_get (queue b key) i ≡ Some t → Stands other t → ¬ Fits b other key n
unfit_asleep b other key n i t lt e stands fits =
    let len = length-take n (queue b key) in
    let below : i < length (take n (queue b key)) = omega (arith, len, lt) in
    let is : get_or (take n (queue b key)) i t ≡ t = get_or-take n (queue b key) i t (omega (arith, lt)) ∙ get_or_from_slice_get (queue b key) i t t e in
    subst (StandsNowhere other) is (All-get_or (StandsNowhere other) (take n (queue b key)) i t below fits.awake) stands.0 stands.1

-- the next one stands in no queue of the other bucket either
pub more_nowhere : (other : Sleepers) (ids : List ℕ) (i t : ℕ) → slice_get ids i ≡ Some t → All (StandsNowhere other) (take i ids) → StandsNowhere other t → All (StandsNowhere other) (take (i + 1) ids)
more_nowhere other ids i t e before now = subst (All (StandsNowhere other)) (sym (one_more ids i t e)) (All-push (StandsNowhere other) (take i ids) t before now)

pub fitting : (b other : Sleepers) (key n m : ℕ) → m ≡ min n (length (queue b key)) → standing other + m ≤ other.capacity → All (StandsNowhere other) (take m (queue b key)) → Fits b other key n
fitting b other key n m is room awake = record {
  room = let len = length-take n (queue b key) in omega arith;
  awake = subst (All (StandsNowhere other)) (least n m (queue b key) is) awake;
}
