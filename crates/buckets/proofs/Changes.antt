-- What each call does to the queues.
use Rattle.std.proofs.Common.{◌≡◌, ◌≢◌, ℕ, suc, ◌+◌, ◌<◌, ◌≤◌, Bool, true, false, cond, List, [], ◌∷◌, ◌++◌, length, get_or, take, drop, Some, None, refl, sym, ap, ◌∙◌, subst, arith, append-nil, eqb-true}
use Rattle.std.specs.Prelude.{slice_get, AllPairs, ◌==◌, not, All, Contains, remove, MatchBool, if◌then◌else◌}
use Rattle.std.proofs.lemmas.Bool.{eqb-false}
use Rattle.std.proofs.lemmas.Bool.Decides.{nat_tests}
use Rattle.std.proofs.lemmas.List.{take_at, drop_at, get_or_at, length-append, length-drop, take_all, drop_all, drop-drop}
use Rattle.std.proofs.lemmas.List.Elements.{filter-append, All-contains, All-weaker, All-contains_itself, All-from_get_or}
use Rattle.std.proofs.lemmas.List.Edits.{length-remove}
use Rattle.std.proofs.Math.Seq.{take-nil, drop-nil, take-add}
use Rattle.buckets.specs.declared.sleeper.Sleeper.{Sleeper}
use Rattle.buckets.specs.Queues.{Sleepers, threads_on, queue, standing, Stands, StandsNowhere, HasRoom, StandOnce, without, IsOrderly, IsEmptied, Enqueues, Takes, Removes}
use Rattle.buckets.proofs.Places.{threads_on-append, threads_on-one, All-threads_on, threads_on-long, sleeper_of, one_key, once_on, threads_on-around, threads_on-remove, without-none, others_before, others_after, stands_there}
use Rattle.buckets.proofs.Counting.{no_more}

-- a bucket with these fields
abbrev pub bucket : ℕ → List Sleeper → Sleepers
bucket capacity sleeping = record { capacity = capacity; sleeping = sleeping }

pub orderly : (n : ℕ) (xs : List Sleeper) → HasRoom n xs → StandOnce xs → IsOrderly (bucket n xs)
orderly n xs room once = record {
  first = room.first;
  last = room.last;
  room = room.enough;
  long = λ k. threads_on-long k xs;
  one_place = λ k. once_on k xs once;
  few = no_more xs once;
  one_queue = λ t k j a b.
      let s = sleeper_of k t xs a in
      let r = sleeper_of j t xs b in
      sym s.2 ∙ one_key xs s.0 r.0 once s.1 r.1 (s.3 ∙ sym r.3) ∙ r.2;
}

pub emptied : (n : ℕ) → IsEmptied (bucket n []) n
unfolding threads_on
emptied n = record { capacity = refl; nobody = refl; queues = λ k. refl }

-- a thread that no sleeper is stands nowhere
pub nowhere : (n t : ℕ) (xs : List Sleeper) → All (λ s. s.thread ≢ t) xs → StandsNowhere (bucket n xs) t
nowhere n t xs h k c = All-contains (λ u. u ≢ t) (threads_on k xs) t (All-threads_on (λ u. u ≢ t) k xs h) c refl

-- ---- putting a thread at the end

pub threads_on-push : (k : ℕ) (xs : List Sleeper) (x : Sleeper) → threads_on k (xs ++ x ∷ []) ≡ (if k == x.key.0 then threads_on k xs ++ x.thread ∷ [] else threads_on k xs)
threads_on-push k xs x = threads_on-append k xs (x ∷ []) ∙ ap (λ (q : List ℕ). threads_on k xs ++ q) (threads_on-one k x) ∙ go (x.key.0 == k) (k == x.key.0) (turned x.key.0 k)
  where
    turned : (a b : ℕ) → (a == b) ≡ (b == a)
    turned a b = grind (arith, nat_tests)

    go : (b c : Bool) → b ≡ c → threads_on k xs ++ (if b then x.thread ∷ [] else []) ≡ (if c then threads_on k xs ++ x.thread ∷ [] else threads_on k xs)
    go true true e = refl
    go false false e = append-nil (threads_on k xs)
    go true false e = absurd cc
    go false true e = absurd cc

pub enqueues : (n : ℕ) (xs : List Sleeper) (x : Sleeper) → Enqueues (bucket n xs) (bucket n (xs ++ x ∷ [])) x.thread x.key.0
enqueues n xs x = record { queues = λ k. threads_on-push k xs x; one_more = length-append xs (x ∷ []); capacity = refl }

-- ---- taking a thread out

-- a list without a thread that isn't in it
pub without_absent : (t : ℕ) (ids : List ℕ) → ¬ Contains ids t → without t ids ≡ ids
without_absent t ids h =
    without-none t ids (All-weaker (Contains ids) (λ u. u ≢ t) (λ u m same. h (subst (λ (v : ℕ). Contains ids v) same m)) ids (All-contains_itself ids))

pub removes_nobody : (n t : ℕ) (xs : List Sleeper) → StandsNowhere (bucket n xs) t → Removes (bucket n xs) (bucket n xs) t false
removes_nobody n t xs h = record {
  answer = h;
  queues = λ k. sym (without_absent t (threads_on k xs) (h k));
  fewer = omega arith;
  capacity = refl;
}

without-same : (t : ℕ) → without t (t ∷ []) ≡ []
without-same t = go (t == t) (grind (arith, nat_tests))
  where
    go : (b : Bool) → b ≡ true → cond (not b) (t ∷ []) [] ≡ []
    go true e = refl
    go false e = absurd cc

pub removes : (n t : ℕ) (xs : List Sleeper) (i : ℕ) (x : Sleeper) → StandOnce xs → i < length xs → x.thread ≡ t → x ≡ get_or xs i x → Removes (bucket n xs) (bucket n (remove xs i)) t true
removes n t xs i x once lt same is =
    record {
      answer = (x.key.0, subst (λ (u : ℕ). Contains (threads_on x.key.0 xs) u) same (stands_there xs i x lt is));
      queues = λ k. subst (λ (u : ℕ). threads_on k (remove xs i) ≡ without u (threads_on k xs)) same (gone lt k);
      fewer = length-remove xs i lt;
      capacity = refl;
    }
  where
    mine : (k : ℕ) (b : Bool) → without x.thread (if b then x.thread ∷ [] else []) ≡ []
    mine k true = without-same x.thread
    mine k false = refl

    gone : i < length xs → (k : ℕ) → threads_on k (remove xs i) ≡ without x.thread (threads_on k xs)
    gone lt k =
        let front = threads_on k (take i xs) in
        let back = threads_on k (drop (suc i) xs) in
        let self = if x.key.0 == k then x.thread ∷ [] else [] in
        threads_on-remove k xs i ∙ sym (
        ap (without x.thread) (threads_on-around k xs i x lt is)
        ∙ filter-append (λ u. not (u == x.thread)) front (self ++ back)
        ∙ ap (λ (q : List ℕ). without x.thread front ++ q) (filter-append (λ u. not (u == x.thread)) self back)
        ∙ ap (λ (q : List ℕ). without x.thread front ++ (q ++ without x.thread back)) (mine k (x.key.0 == k))
        ∙ ap (λ (q : List ℕ). q ++ without x.thread back) (without-none x.thread front (All-threads_on (λ u. u ≢ x.thread) k (take i xs) (others_before xs i x once lt is)))
        ∙ ap (λ (q : List ℕ). front ++ q) (without-none x.thread back (All-threads_on (λ u. u ≢ x.thread) k (drop (suc i) xs) (others_after xs i x once lt is))))

-- a thread that stands between others leaves
pub removes_between : (n : ℕ) (xs : List Sleeper) (x : Sleeper) (ys : List Sleeper) → StandOnce (xs ++ x ∷ ys) → Removes (bucket n (xs ++ x ∷ ys)) (bucket n (xs ++ ys)) x.thread true
removes_between n xs x ys once =
    subst (λ (zs : List Sleeper). Removes (bucket n (xs ++ x ∷ ys)) (bucket n zs) x.thread true) rest
    (removes n x.thread (xs ++ x ∷ ys) (length xs) x once (let long = length-append xs (x ∷ ys) in omega arith) refl (sym (get_or_at xs x ys x (length xs) refl)))
  where
    rest : remove (xs ++ x ∷ ys) (length xs) ≡ xs ++ ys
    rest = ap (λ (q : List Sleeper). q ++ drop (suc (length xs)) (xs ++ x ∷ ys)) (take_at xs (x ∷ ys) (length xs) refl)
        ∙ ap (λ (q : List Sleeper). xs ++ q) (ap (λ (m : ℕ). drop m (xs ++ x ∷ ys)) (next (length xs)) ∙ sym (drop-drop 1 (length xs) (xs ++ x ∷ ys)) ∙ ap (λ (q : List Sleeper). drop 1 q) (drop_at xs (x ∷ ys) (length xs) refl))
      where
        next : (m : ℕ) → suc m ≡ m + 1
        next m = omega arith

-- ---- taking the first

-- nobody can be the first of nobody
pub takes_nobody : (b : Sleepers) (key : ℕ) → None ≡ slice_get (queue b key) 0 → Takes b b key 1 []
takes_nobody b key e = record {
  firsts = sym (ap (λ (q : List ℕ). take 1 q) empty);
  queues = λ k. go k (k == key) refl;
  fewer = omega arith;
  capacity = refl;
}
  where
    none : (q : List ℕ) → None ≡ slice_get q 0 → q ≡ []
    none [] e = refl
    none (t ∷ q) e = absurd cc

    empty : queue b key ≡ []
    empty = none (queue b key) e

    go : (k : ℕ) (d : Bool) → (k == key) ≡ d → queue b k ≡ (if d then drop 1 (queue b k) else queue b k)
    go k false h = refl
    go k true h = let it : queue b k ≡ [] = ap (λ (j : ℕ). queue b j) (eqb-true k key h) ∙ empty in it ∙ sym (ap (λ (q : List ℕ). drop 1 q) it)

-- the first of a queue leaves
pub takes_first : (a b : Sleepers) (key t : ℕ) (stood : Bool) → IsOrderly a → Some t ≡ slice_get (queue a key) 0 → Removes a b t stood → Takes a b key 1 (t ∷ [])
takes_first a b key t stood o e r = made (rest (queue a key) e).0 (rest (queue a key) e).1
  where
    rest : (q : List ℕ) → Some t ≡ slice_get q 0 → (ts : List ℕ) × (q ≡ t ∷ ts)
    rest [] e = absurd cc
    rest (u ∷ us) e = (us, ap (λ (v : ℕ). v ∷ us) (the e))
      where
        the : Some t ≡ Some u → u ≡ t
        the s = cc

    made : (ts : List ℕ) → queue a key ≡ t ∷ ts → Takes a b key 1 (t ∷ [])
    made ts is = record {
      firsts = sym (ap (λ (q : List ℕ). take 1 q) is);
      queues = λ k. r.queues k ∙ go k (k == key) refl;
      fewer = stands stood r.answer r.fewer;
      capacity = r.capacity;
    }
      where
        here : Contains (queue a key) t
        here = subst (λ (q : List ℕ). Contains q t) (sym is) (0, omega arith, refl)

        stands : (s : Bool) → MatchBool s (Stands a t) (StandsNowhere a t) → standing b + (if s then 1 else 0) ≡ standing a → standing b + 1 ≡ standing a
        stands true h f = f
        stands false h f = absurd (h key here)

        once : AllPairs (λ u v. u ≢ v) (t ∷ ts)
        once = subst (λ (q : List ℕ). AllPairs (λ u v. u ≢ v) q) is (o.one_place key)

        others : All (λ u. u ≢ t) ts
        others = All-from_get_or (λ u. u ≢ t) ts t (λ i lt same. once 0 (suc i) t (omega arith) (omega (arith, lt)) (sym same))

        own : without t (t ∷ ts) ≡ ts
        own = filter-append (λ u. not (u == t)) (t ∷ []) ts ∙ ap (λ (q : List ℕ). q ++ without t ts) (without-same t) ∙ without-none t ts others

        go : (k : ℕ) (d : Bool) → (k == key) ≡ d → without t (queue a k) ≡ (if d then drop 1 (queue a k) else queue a k)
        go k true h =
            let it : queue a k ≡ t ∷ ts = ap (λ (j : ℕ). queue a j) (eqb-true k key h) ∙ is in
            ap (without t) it ∙ own ∙ sym (ap (λ (q : List ℕ). drop 1 q) it)
        go k false h = without_absent t (queue a k) (λ m. eqb-false k key h (o.one_queue t k key m here))

-- ---- taking one after another

none_long : (ids : List ℕ) → length ids ≤ 0 → ids ≡ []
none_long [] h = refl
none_long (t ∷ ids) h = absurd (omega (arith, h))

none_first : (ids : List ℕ) → [] ≡ take 1 ids → ids ≡ []
none_first [] h = refl
none_first (t ∷ ids) h = absurd cc

-- nobody is taken yet
pub takes_none : (b : Sleepers) (key : ℕ) → Takes b b key 0 []
takes_none b key = record { firsts = refl; queues = λ k. go (k == key) (queue b k); fewer = omega arith; capacity = refl }
  where
    go : (c : Bool) (q : List ℕ) → q ≡ (if c then drop 0 q else q)
    go true q = refl
    go false q = refl

-- nobody can be taken where nobody sleeps
pub takes_of_nobody : (n key m : ℕ) (xs : List Sleeper) → length xs ≡ 0 → Takes (bucket n xs) (bucket n xs) key m []
takes_of_nobody n key m xs e = record {
  firsts = sym (ap (λ (q : List ℕ). take m q) (empty key) ∙ take-nil m);
  queues = λ k. go k (k == key);
  fewer = omega arith;
  capacity = refl;
}
  where
    empty : (k : ℕ) → threads_on k xs ≡ []
    empty k = let few = threads_on-long k xs in none_long (threads_on k xs) (omega arith)

    go : (k : ℕ) (c : Bool) → threads_on k xs ≡ (if c then drop m (threads_on k xs) else threads_on k xs)
    go k true = empty k ∙ sym (ap (λ (q : List ℕ). drop m q) (empty k) ∙ drop-nil m)
    go k false = refl

-- the queue of the key itself is what was left of it
rest : (a b : Sleepers) (key i : ℕ) (ids : List ℕ) → Takes a b key i ids → queue b key ≡ drop i (queue a key)
rest a b key i ids t = t.queues key ∙ go (key == key) (grind (arith, nat_tests))
  where
    go : (c : Bool) → c ≡ true → (if c then drop i (queue a key) else queue a key) ≡ drop i (queue a key)
    go true e = refl
    go false e = absurd cc

-- i were taken, and then one more
pub takes_more : (a b c : Sleepers) (key i t : ℕ) (ids : List ℕ) → Takes a b key i ids → Takes b c key 1 (t ∷ []) → Takes a c key (i + 1) (ids ++ t ∷ [])
takes_more a b c key i t ids before now = record {
  firsts =
      ap (λ (q : List ℕ). q ++ t ∷ []) before.firsts
      ∙ ap (λ (q : List ℕ). take i (queue a key) ++ q) (now.firsts ∙ ap (λ (q : List ℕ). take 1 q) (rest a b key i ids before))
      ∙ sym (take-add i 1 (queue a key));
  queues = λ k. now.queues k ∙ go k (k == key) (before.queues k);
  fewer = let len = length-append ids (t ∷ []) in let x = before.fewer in let y = now.fewer in omega arith;
  capacity = now.capacity ∙ before.capacity;
}
  where
    go : (k : ℕ) (d : Bool) → queue b k ≡ (if d then drop i (queue a k) else queue a k) → (if d then drop 1 (queue b k) else queue b k) ≡ (if d then drop (i + 1) (queue a k) else queue a k)
    go k true e = ap (λ (q : List ℕ). drop 1 q) e ∙ drop-drop 1 i (queue a k)
    go k false e = e

-- i were taken, and then there was nobody left on the key
pub takes_all : (a b c : Sleepers) (key i n : ℕ) (ids : List ℕ) → i ≤ n → Takes a b key i ids → Takes b c key 1 [] → Takes a c key n ids
takes_all a b c key i n ids le before now = record {
  firsts = before.firsts ∙ take_all i (queue a key) short ∙ sym (take_all n (queue a key) (omega (arith, short, le)));
  queues = λ k. now.queues k ∙ go k (k == key) refl (before.queues k);
  fewer = let x = before.fewer in let y = now.fewer in omega arith;
  capacity = now.capacity ∙ before.capacity;
}
  where
    left : drop i (queue a key) ≡ []
    left = sym (rest a b key i ids before) ∙ none_first (queue b key) now.firsts

    short : length (queue a key) ≤ i
    short = let none = ap length left in let len = length-drop i (queue a key) in omega arith

    go : (k : ℕ) (d : Bool) → (k == key) ≡ d → queue b k ≡ (if d then drop i (queue a k) else queue a k) → (if d then drop 1 (queue b k) else queue b k) ≡ (if d then drop n (queue a k) else queue a k)
    go k true h e =
        let same : queue a k ≡ queue a key = ap (λ (j : ℕ). queue a j) (eqb-true _ _ h) in
        ap (λ (q : List ℕ). drop 1 q) (e ∙ ap (λ (q : List ℕ). drop i q) same ∙ left) ∙ sym (ap (λ (q : List ℕ). drop n q) same ∙ drop_all n (queue a key) (omega (arith, short, le)))
    go k false h e = e

-- ---- what stays
