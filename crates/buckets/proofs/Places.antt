-- Sleepers on a key, and where they stand.
use Rattle.std.proofs.Common.{◌≡◌, ◌≢◌, ℕ, suc, ◌+◌, ◌<◌, ◌≤◌, Bool, true, false, cond, List, [], ◌∷◌, ◌++◌, length, get_or, take, drop, refl, sym, ap, ◌∙◌, subst, ◌⊎◌, inl, inr, arith}
use Rattle.std.specs.Prelude.{◌==◌, map, filter, not, All, AllPairs, Contains, remove, if◌then◌else◌}
use Rattle.std.proofs.lemmas.Bool.Decides.{nat_tests}
use Rattle.std.proofs.lemmas.List.{map-append, length-map, get_or-map, get_or_default, get_or-take, get_or-drop, length-take, length-drop}
use Rattle.std.proofs.lemmas.List.Elements.{filter-append, Contains-append_cases, Contains-append_left, Contains-append_right, Contains-push, Contains-push_cases, All-head, All-tail, All-map, All-filter, All-from_get_or}
use Rattle.std.proofs.lemmas.List.Kept.{AllPairs-filter}
use Rattle.std.proofs.lemmas.Bool.{cases_lt}
use Rattle.std.proofs.Math.Seq.{split_at}
use Rattle.buckets.specs.declared.sleeper.Sleeper.{Sleeper}
use Rattle.buckets.specs.Queues.{threads_on, StandOnce, without}

-- the threads on a key in two lists, one after the other
pub threads_on-append : (k : ℕ) (xs ys : List Sleeper) → threads_on k (xs ++ ys) ≡ threads_on k xs ++ threads_on k ys
unfolding threads_on
threads_on-append k xs ys =
    ap (λ (q : List Sleeper). map (λ (s : Sleeper). s.thread) q) (filter-append (λ (s : Sleeper). s.key.0 == k) xs ys)
    ∙ map-append (λ (s : Sleeper). s.thread) (filter (λ s. s.key.0 == k) xs) (filter (λ s. s.key.0 == k) ys)

-- one sleeper
pub threads_on-one : (k : ℕ) (s : Sleeper) → threads_on k (s ∷ []) ≡ (if s.key.0 == k then s.thread ∷ [] else [])
unfolding threads_on
threads_on-one k s = go (s.key.0 == k)
  where
    go : (b : Bool) → map (λ (r : Sleeper). r.thread) (cond b (s ∷ []) []) ≡ (if b then s.thread ∷ [] else [])
    go true = refl
    go false = refl

-- what holds of each sleeper's thread holds of each in a queue
pub All-threads_on : (P : ℕ → Type 0) (k : ℕ) (xs : List Sleeper) → All (λ s. P s.thread) xs → All P (threads_on k xs)
unfolding threads_on
All-threads_on P k xs h = All-map P (λ (s : Sleeper). s.thread) (filter (λ s. s.key.0 == k) xs) (All-filter (λ s. s.key.0 == k) (λ s. P s.thread) xs h)

-- a queue has at most all the sleepers
pub threads_on-long : (k : ℕ) (xs : List Sleeper) → length (threads_on k xs) ≤ length xs
unfolding threads_on
threads_on-long k [] = omega arith
threads_on-long k (x ∷ xs) = go (x.key.0 == k) (threads_on-long k xs)
  where
    go : (b : Bool) → length (threads_on k xs) ≤ length xs → length (map (λ (r : Sleeper). r.thread) (cond b (x ∷ filter (λ s. s.key.0 == k) xs) (filter (λ s. s.key.0 == k) xs))) ≤ suc (length xs)
    go true h = omega arith
    go false h = omega arith

-- who stands in a queue sleeps on its key
pub sleeper_of : (k t : ℕ) (xs : List Sleeper) → Contains (threads_on k xs) t → (s : Sleeper) × Contains xs s × (s.key.0 ≡ k) × (s.thread ≡ t)
unfolding threads_on
sleeper_of k t [] h = absurd (omega (arith, h.1))
sleeper_of k t (x ∷ xs) h = go (sleeper_of k t xs) (x.key.0 == k) refl h
  where
    later : (s : Sleeper) × Contains xs s × (s.key.0 ≡ k) × (s.thread ≡ t) → (s : Sleeper) × Contains (x ∷ xs) s × (s.key.0 ≡ k) × (s.thread ≡ t)
    later r = (r.0, Contains-append_right (x ∷ []) xs r.0 r.1, r.2, r.3)

    only : Contains (x.thread ∷ []) t → x.thread ≡ t
    only c = elim (Contains-push_cases [] x.thread t c) [ inl none ↦ absurd (omega (arith, none.1)) | inr same ↦ same ]

    go : (Contains (threads_on k xs) t → (s : Sleeper) × Contains xs s × (s.key.0 ≡ k) × (s.thread ≡ t)) → (b : Bool) → (x.key.0 == k) ≡ b → Contains (map (λ (r : Sleeper). r.thread) (cond b (x ∷ filter (λ s. s.key.0 == k) xs) (filter (λ s. s.key.0 == k) xs))) t → (s : Sleeper) × Contains (x ∷ xs) s × (s.key.0 ≡ k) × (s.thread ≡ t)
    go next true e m = elim (Contains-append_cases (x.thread ∷ []) (threads_on k xs) t m) [
      | inl here ↦ (x, (0, omega arith, refl), grind (arith, nat_tests), only here)
      | inr there ↦ later (next there)
    ]
    go next false e m = later (next m)

-- two of the list that are one thread are one sleeper
pub one_key : (xs : List Sleeper) (s r : Sleeper) → StandOnce xs → Contains xs s → Contains xs r → s.thread ≡ r.thread → s.key.0 ≡ r.key.0
one_key xs s r once a b same = go (cases_lt a.0 b.0)
  where
    at_a : get_or xs a.0 s ≡ s
    at_a = a.2

    at_b : get_or xs b.0 s ≡ r
    at_b = get_or_default xs b.0 s r b.1 ∙ b.2

    go : (a.0 < b.0) ⊎ (b.0 ≤ a.0) → s.key.0 ≡ r.key.0
    go (inl lt) = absurd (once a.0 b.0 s lt b.1 (ap (λ (q : Sleeper). q.thread) at_a ∙ same ∙ sym (ap (λ (q : Sleeper). q.thread) at_b)))
    go (inr ge) = more (cases_lt b.0 a.0)
      where
        more : (b.0 < a.0) ⊎ (a.0 ≤ b.0) → s.key.0 ≡ r.key.0
        more (inl lt) = absurd (once b.0 a.0 s lt a.1 (ap (λ (q : Sleeper). q.thread) at_b ∙ sym same ∙ sym (ap (λ (q : Sleeper). q.thread) at_a)))
        more (inr le) =
            let even : a.0 ≡ b.0 = omega arith in
            ap (λ (q : Sleeper). q.key.0) (sym at_a ∙ ap (λ (n : ℕ). get_or xs n s) even ∙ at_b)

-- a map keeps what holds of each pair
AllPairs-map : (xs : List Sleeper) → StandOnce xs → AllPairs (λ t u. t ≢ u) (map (λ (s : Sleeper). s.thread) xs)
AllPairs-map [] once i j d lt in' same = absurd (omega (arith, in'))
AllPairs-map (x ∷ xs) once i j d lt in' same =
    let len : length (map (λ (s : Sleeper). s.thread) (x ∷ xs)) ≡ length (x ∷ xs) = length-map (x ∷ xs) (λ (s : Sleeper). s.thread) in
    let in_j : j < length (x ∷ xs) = omega (arith, len, in') in
    let in_i : i < length (x ∷ xs) = omega (arith, in_j, lt) in
    once i j x lt in_j (sym (get_or-map (λ (s : Sleeper). s.thread) (x ∷ xs) i x d in_i) ∙ same ∙ get_or-map (λ (s : Sleeper). s.thread) (x ∷ xs) j x d in_j)

-- in a queue no thread stands twice
pub once_on : (k : ℕ) (xs : List Sleeper) → StandOnce xs → AllPairs (λ t u. t ≢ u) (threads_on k xs)
unfolding threads_on
once_on k xs once = AllPairs-map (filter (λ s. s.key.0 == k) xs) (AllPairs-filter (λ s r. s.thread ≢ r.thread) (λ s. s.key.0 == k) xs once)

-- the list around a place
pub around : (xs : List Sleeper) (i : ℕ) (x : Sleeper) → i < length xs → x ≡ get_or xs i x → xs ≡ take i xs ++ x ∷ drop (suc i) xs
around xs i x h is = split_at xs i x h ∙ ap (λ (q : Sleeper). take i xs ++ q ∷ drop (suc i) xs) (sym is)

-- the queue of a key around a place
pub threads_on-around : (k : ℕ) (xs : List Sleeper) (i : ℕ) (x : Sleeper) → i < length xs → x ≡ get_or xs i x
    → threads_on k xs ≡ threads_on k (take i xs) ++ ((if x.key.0 == k then x.thread ∷ [] else []) ++ threads_on k (drop (suc i) xs))
threads_on-around k xs i x h is =
    ap (threads_on k) (around xs i x h is) ∙ threads_on-append k (take i xs) (x ∷ drop (suc i) xs)
    ∙ ap (λ (q : List ℕ). threads_on k (take i xs) ++ q) (threads_on-append k (x ∷ []) (drop (suc i) xs) ∙ ap (λ (q : List ℕ). q ++ threads_on k (drop (suc i) xs)) (threads_on-one k x))

-- the queue of a key after a removal
pub threads_on-remove : (k : ℕ) (xs : List Sleeper) (i : ℕ) → threads_on k (remove xs i) ≡ threads_on k (take i xs) ++ threads_on k (drop (suc i) xs)
threads_on-remove k xs i = threads_on-append k (take i xs) (drop (suc i) xs)

-- a list without a thread that isn't in it
pub without-none : (t : ℕ) (ids : List ℕ) → All (λ u. u ≢ t) ids → without t ids ≡ ids
without-none t [] h = refl
without-none t (u ∷ ids) h = go (λ m. without-none t ids m) (u == t) refl
  where
    go : (All (λ v. v ≢ t) ids → without t ids ≡ ids) → (b : Bool) → (u == t) ≡ b → cond (not b) (u ∷ without t ids) (without t ids) ≡ u ∷ ids
    go next true e = absurd (All-head (λ v. v ≢ t) u ids h (grind (arith, nat_tests)))
    go next false e = ap (λ (q : List ℕ). u ∷ q) (next (All-tail (λ v. v ≢ t) u ids h))

-- the others are other threads than the one at a place
pub others_before : (xs : List Sleeper) (i : ℕ) (x : Sleeper) → StandOnce xs → i < length xs → x ≡ get_or xs i x → All (λ s. s.thread ≢ x.thread) (take i xs)
others_before xs i x once h is = All-from_get_or (λ s. s.thread ≢ x.thread) (take i xs) x one
  where
    one : (j : ℕ) → j < length (take i xs) → (get_or (take i xs) j x).thread ≢ x.thread
    one j lt same =
        let len = length-take i xs in
        let below : j < i = omega (arith, len, lt) in
        once j i x below h (ap (λ (q : Sleeper). q.thread) (sym (get_or-take i xs j x below)) ∙ same ∙ ap (λ (q : Sleeper). q.thread) is)

pub others_after : (xs : List Sleeper) (i : ℕ) (x : Sleeper) → StandOnce xs → i < length xs → x ≡ get_or xs i x → All (λ s. s.thread ≢ x.thread) (drop (suc i) xs)
others_after xs i x once h is = All-from_get_or (λ s. s.thread ≢ x.thread) (drop (suc i) xs) x one
  where
    one : (j : ℕ) → j < length (drop (suc i) xs) → (get_or (drop (suc i) xs) j x).thread ≢ x.thread
    one j lt same =
        let len = length-drop (suc i) xs in
        once i (suc i + j) x (omega arith) (omega (arith, len, lt)) (ap (λ (q : Sleeper). q.thread) (sym is) ∙ sym same ∙ ap (λ (q : Sleeper). q.thread) (get_or-drop (suc i) xs j x))

-- the thread of each sleeper stands in the queue of its key
pub stands_there : (xs : List Sleeper) (i : ℕ) (x : Sleeper) → i < length xs → x ≡ get_or xs i x → Contains (threads_on x.key.0 xs) x.thread
stands_there xs i x h is =
    subst (λ (q : List ℕ). Contains q x.thread) (sym (threads_on-around x.key.0 xs i x h is))
    (Contains-append_right (threads_on x.key.0 (take i xs)) ((if x.key.0 == x.key.0 then x.thread ∷ [] else []) ++ threads_on x.key.0 (drop (suc i) xs)) x.thread
    (Contains-append_left (if x.key.0 == x.key.0 then x.thread ∷ [] else []) (threads_on x.key.0 (drop (suc i) xs)) x.thread (go (x.key.0 == x.key.0) (grind (arith, nat_tests)))))
  where
    go : (b : Bool) → b ≡ true → Contains (if b then x.thread ∷ [] else []) x.thread
    go true e = Contains-push [] x.thread
    go false e = absurd cc
