-- The bucket that is recorded of each thread, in which it stands if it stands.
use Rattle.std.proofs.Common.{◌≡◌, ◌≢◌, ℕ, ◌+◌, ◌-◌, ◌<◌, ◌≤◌, Bool, true, false, List, [], ◌∷◌, ◌++◌, length, set, take, drop, Option, Some, None, refl, sym, ap, ◌∙◌, subst, ◌⊎◌, inl, inr, arith, eqb-true}
use Rattle.std.specs.Prelude.{◌%◌, ◌==◌, slice_get, get_or, All, Contains, if◌then◌else◌}
use Rattle.std.proofs.Math.Seq.{take-append_seam}
use Rattle.std.proofs.lemmas.Bool.{cases_lt, cases_eq}
use Rattle.std.proofs.lemmas.List.{length-set, get_or-set_same, get_or-set_other, take_more}
use Rattle.std.proofs.lemmas.List.Elements.{All-get_or, All-weaker, All-contains_itself, Contains-push_cases, Contains-append_left, Contains-append_right}
use Rattle.std.proofs.lemmas.Option.{none-some, slice_get_past, slice_get-get_or, slice_get_within, get_or_from_slice_get}
use Rattle.buckets.specs.Queues.{Sleepers, queue, StandsNowhere}
use Rattle.buckets.proofs.Moves.{contains_take}
use Rattle.syscalls.specs.Kernels.{bucket_at, queue_in, StandWhereTold, Remembers, IsAwake, HasBuckets, FallsAsleep, Wakes, Moves, Leaves}
use Rattle.syscalls.proofs.Buckets.{kernel, stands_home, inside}
use Rattle.syscalls.proofs.Changes.{Sound, contains_drop, contains_without}
use Rattle.syscalls.proofs.Moves.{came, moved_from}

-- ---- the one bucket that is recorded is asked

abbrev number_in : Option ℕ → ℕ
number_in None = 0
number_in (Some i) = i

pub told_nowhere : (told : List ℕ) (bs : List Sleepers) (t number : ℕ) → StandWhereTold told bs → slice_get told (t - 1) ≡ Some number → StandsNowhere (bucket_at bs number) t
    → (i : ℕ) → i < length bs → StandsNowhere (bucket_at bs i) t
told_nowhere told bs t number stand is nowhere i lt k c =
    let same : i ≡ number = ap number_in (sym (stand i k t lt c) ∙ is) in
    nowhere k (subst (λ (j : ℕ). Contains (queue (bucket_at bs j) k) t) same c)

pub untold_nowhere : (told : List ℕ) (bs : List Sleepers) (t : ℕ) → StandWhereTold told bs → slice_get told (t - 1) ≡ None → (i : ℕ) → i < length bs → StandsNowhere (bucket_at bs i) t
untold_nowhere told bs t stand is i lt k c = none-some i (sym is ∙ stand i k t lt c)

pub told_read : (told : List ℕ) (i j number d : ℕ) → i ≡ j → i < length told → number ≡ get_or told j d → slice_get told i ≡ Some number
told_read told i j number d same lt is = slice_get-get_or told i d lt ∙ ap Some (ap (λ (k : ℕ). get_or told k d) same ∙ sym is)

-- ---- one is recorded again

told_same : (told : List ℕ) (i x : ℕ) → i < length told → slice_get (set told i x) i ≡ Some x
told_same told i x lt = let len = length-set told i x in slice_get-get_or (set told i x) i 0 (omega arith) ∙ ap Some (get_or-set_same told i x 0 lt)

told_other : (told : List ℕ) (i j x : ℕ) → j ≢ i → slice_get (set told i x) j ≡ slice_get told j
told_other told i j x ne = go (cases_lt j (length told))
  where
    go : (j < length told) ⊎ (length told ≤ j) → slice_get (set told i x) j ≡ slice_get told j
    go (inl lt) = let len = length-set told i x in slice_get-get_or (set told i x) j 0 (omega arith) ∙ ap Some (get_or-set_other told i j x 0 ne) ∙ sym (slice_get-get_or told j 0 lt)
    go (inr past) = let len = length-set told i x in slice_get_past (set told i x) j (omega arith) ∙ sym (slice_get_past told j past)

-- ---- it stays so through each call, since it is so of each key's queue in its bucket

at_home : (n : ℕ) (hs : List ℕ) (bs : List Sleepers) (told : List ℕ) → HasBuckets (kernel n hs bs) → ((k t : ℕ) → Contains (queue_in bs k) t → slice_get told (t - 1) ≡ Some (k % length bs)) → StandWhereTold told bs
at_home n hs bs told has each i k t lt c =
    let home = stands_home n hs bs i k t has lt c in
    each k t home.1 ∙ ap Some home.0

told_in : (n : ℕ) (hs : List ℕ) (bs : List Sleepers) (told : List ℕ) → Sound n hs bs → Remembers told n bs → (k t : ℕ) → Contains (queue_in bs k) t → slice_get told (t - 1) ≡ Some (k % length bs)
told_in n hs bs told s r k t c = r.stand (k % length bs) k t (inside n hs bs k s.1) c

as_long : (bs cs : List Sleepers) (k : ℕ) → length cs ≡ length bs → Some (k % length bs) ≡ Some (k % length cs)
as_long bs cs k long = ap (λ (m : ℕ). Some (k % m)) (sym long)

-- nobody comes
pub remembers_fewer : (n : ℕ) (hs : List ℕ) (bs cs : List Sleepers) (told : List ℕ) → Sound n hs bs → Sound n hs cs → length cs ≡ length bs → ((k t : ℕ) → Contains (queue_in cs k) t → Contains (queue_in bs k) t) → Remembers told n bs → Remembers told n cs
remembers_fewer n hs bs cs told s after long fewer r = record {
  long = r.long;
  stand = at_home n hs cs told after.1 (λ k t c. told_in n hs bs told s r k t (fewer k t c) ∙ as_long bs cs k long);
}

pub remembers_woken : (n : ℕ) (hs : List ℕ) (bs cs : List Sleepers) (told : List ℕ) (key m : ℕ) (woken : List ℕ) → Sound n hs bs → Sound n hs cs → length cs ≡ length bs → Wakes (kernel n hs bs) (kernel n hs cs) key m woken → Remembers told n bs → Remembers told n cs
remembers_woken n hs bs cs told key m woken s after long e r = remembers_fewer n hs bs cs told s after long (λ k t c. go k t (k == key) refl (subst (λ (q : List ℕ). Contains q t) (e.queues k) c)) r
  where
    go : (k t : ℕ) (d : Bool) → (k == key) ≡ d → Contains (if d then drop m (queue_in bs key) else queue_in bs k) t → Contains (queue_in bs k) t
    go k t true same c = subst (λ (j : ℕ). Contains (queue_in bs j) t) (sym (eqb-true _ _ same)) (contains_drop m (queue_in bs key) t c)
    go k t false same c = c

pub remembers_left : (n : ℕ) (hs : List ℕ) (bs cs : List Sleepers) (told : List ℕ) (u : ℕ) (slept : Bool) → Sound n hs bs → Sound n hs cs → length cs ≡ length bs → Leaves (kernel n hs bs) (kernel n hs cs) u slept → Remembers told n bs → Remembers told n cs
remembers_left n hs bs cs told u slept s after long e r = remembers_fewer n hs bs cs told s after long (λ k t c. contains_without u (queue_in bs k) t (subst (λ (q : List ℕ). Contains q t) (e.queues k) c)) r

-- a thread comes
pub remembers_asleep : (n : ℕ) (hs : List ℕ) (bs cs : List Sleepers) (told : List ℕ) (t key i number : ℕ) → Sound n hs bs → Sound n hs cs → length cs ≡ length bs → 1 ≤ t → t ≤ n → i + 1 ≡ t → number ≡ key % length bs
    → IsAwake (kernel n hs bs) t → FallsAsleep (kernel n hs bs) (kernel n hs cs) t key → Remembers told n bs → Remembers (set told i number) n cs
remembers_asleep n hs bs cs told t key i number s after long low high is at awake e r = record {
  long = length-set told i number ∙ r.long;
  stand = at_home n hs cs (set told i number) after.1 (λ k u c. go k u (k == key) refl (subst (λ (q : List ℕ). Contains q u) (e.queues k) c) ∙ as_long bs cs k long);
}
  where
    anew : (k : ℕ) → k ≡ key → slice_get (set told i number) (t - 1) ≡ Some (k % length bs)
    anew k same =
        let here : t - 1 ≡ i = omega arith in
        let len = r.long in
        ap (slice_get (set told i number)) here ∙ told_same told i number (omega arith) ∙ ap Some (at ∙ ap (λ (j : ℕ). j % length bs) (sym same))

    stays : (k u : ℕ) → Contains (queue_in bs k) u → slice_get (set told i number) (u - 1) ≡ Some (k % length bs)
    stays k u c =
        let low' = (s.0.known k u c).0 in
        let other : u ≢ t = (λ same. awake k (subst (λ (v : ℕ). Contains (queue_in bs k) v) same c)) in
        told_other told i (u - 1) number (λ same. other (omega (arith, same))) ∙ told_in n hs bs told s r k u c

    either : (k u : ℕ) → k ≡ key → Contains (queue_in bs key) u ⊎ (t ≡ u) → slice_get (set told i number) (u - 1) ≡ Some (k % length bs)
    either k u same (inl old) = stays k u (subst (λ (j : ℕ). Contains (queue_in bs j) u) (sym same) old)
    either k u same (inr new) = ap (λ (v : ℕ). slice_get (set told i number) (v - 1)) (sym new) ∙ anew k same

    go : (k u : ℕ) (d : Bool) → (k == key) ≡ d → Contains (if d then queue_in bs key ++ t ∷ [] else queue_in bs k) u → slice_get (set told i number) (u - 1) ≡ Some (k % length bs)
    go k u true same c = either k u (eqb-true _ _ same) (Contains-push_cases (queue_in bs key) t u c)
    go k u false same c = stays k u c

-- threads are moved, and told again where the bucket is another one
pub remembers_moved : (n : ℕ) (hs : List ℕ) (bs cs : List Sleepers) (told anew : List ℕ) (key m to : ℕ) (moved : List ℕ) → Sound n hs bs → Sound n hs cs → length cs ≡ length bs → key ≢ to → Moves (kernel n hs bs) (kernel n hs cs) key m to moved
    → ((t : ℕ) → Contains moved t → slice_get anew (t - 1) ≡ Some (to % length bs)) → ((t : ℕ) → 1 ≤ t → ¬ Contains moved t → slice_get anew (t - 1) ≡ slice_get told (t - 1)) → length anew ≡ length told
    → Remembers told n bs → Remembers anew n cs
remembers_moved n hs bs cs told anew key m to moved s after long ne e arrived others len r = record {
  long = len ∙ r.long;
  stand = at_home n hs cs anew after.1 (λ k t c. go k t (came (kernel n hs bs) (kernel n hs cs) key m to moved s.0 ne e k t c) ∙ as_long bs cs k long);
}
  where
    go : (k t : ℕ) → (Contains (queue_in bs k) t × ¬ Contains moved t) ⊎ ((k ≡ to) × Contains moved t) → slice_get anew (t - 1) ≡ Some (k % length bs)
    go k t (inl stays) = others t (s.0.known k t stays.0).0 stays.1 ∙ told_in n hs bs told s r k t stays.0
    go k t (inr moves) = arrived t moves.1 ∙ ap (λ (j : ℕ). Some (j % length bs)) (sym moves.0)

pub moved_within : (n : ℕ) (hs : List ℕ) (bs cs : List Sleepers) (told : List ℕ) (key m to : ℕ) (moved : List ℕ) → Sound n hs bs → Sound n hs cs → length cs ≡ length bs → key ≢ to → key % length bs ≡ to % length bs → Moves (kernel n hs bs) (kernel n hs cs) key m to moved
    → Remembers told n bs → Remembers told n cs
moved_within n hs bs cs told key m to moved s after long ne one e r =
    remembers_moved n hs bs cs told told key m to moved s after long ne e
    (λ t moves. told_in n hs bs told s r key t (contains_take m (queue_in bs key) t (moved_from (kernel n hs bs) (kernel n hs cs) key m to moved t e moves)) ∙ ap Some one) (λ t low stays. refl) refl r

-- nobody stands
pub remembers_nobody : (n : ℕ) (bs : List Sleepers) (told : List ℕ) → length told ≡ n → ((i k t : ℕ) → i < length bs → ¬ Contains (queue (bucket_at bs i) k) t) → Remembers told n bs
remembers_nobody n bs told long nobody = record { long = long; stand = λ i k t lt c. absurd (nobody i k t lt c) }

-- ---- this many of these threads are recorded again

one_more : (ids : List ℕ) (i t : ℕ) → slice_get ids i ≡ Some t → take (i + 1) ids ≡ take i ids ++ t ∷ []
one_more ids i t e = take_more ids i t (slice_get_within ids i t e) ∙ ap (λ (u : ℕ). take i ids ++ u ∷ []) (get_or_from_slice_get ids i t t e)

pub record Reminded (old now threads : List ℕ) (number : ℕ) : Type 0 where
  pub came : (t : ℕ) → Contains threads t → slice_get now (t - 1) ≡ Some number
  pub others : (t : ℕ) → 1 ≤ t → ¬ Contains threads t → slice_get now (t - 1) ≡ slice_get old (t - 1)
  pub long : length now ≡ length old

pub reminded_none : (old : List ℕ) (number : ℕ) → Reminded old old [] number
reminded_none old number = record {
  came = λ t c. absurd (omega (arith, c.1));
  others = λ t low c. refl;
  long = refl;
}

pub reminded_more : (old now threads : List ℕ) (number place next i : ℕ) → slice_get threads place ≡ Some next → i + 1 ≡ next → All (λ t. (1 ≤ t) × (t ≤ length old)) threads → Reminded old now (take place threads) number
    → Reminded old (set now i number) (take (place + 1) threads) number
reminded_more old now threads number place next i is at known r = subst (λ (ts : List ℕ). Reminded old (set now i number) ts number) (sym (one_more threads place next is)) (record {
  came = λ t c. came t (Contains-push_cases (take place threads) next t c);
  others = λ t low c.
      let other : t ≢ next = (λ same. c (Contains-append_right (take place threads) (next ∷ []) t (0, omega arith, sym same))) in
      told_other now i (t - 1) number (λ same. other (omega (arith, same))) ∙ r.others t low (λ before. c (Contains-append_left (take place threads) (next ∷ []) t before));
  long = length-set now i number ∙ r.long;
})
  where
    high : next ≤ length old
    high = (subst (λ (t : ℕ). (1 ≤ t) × (t ≤ length old)) (get_or_from_slice_get threads place next next is)
        (All-get_or (λ t. (1 ≤ t) × (t ≤ length old)) threads place next (slice_get_within threads place next is) known)).1

    here : slice_get (set now i number) i ≡ Some number
    here = let len = r.long in told_same now i number (omega (arith, high))

    came : (t : ℕ) → Contains (take place threads) t ⊎ (next ≡ t) → slice_get (set now i number) (t - 1) ≡ Some number
    came t (inr same) = let back : t - 1 ≡ i = omega (arith, same) in ap (slice_get (set now i number)) back ∙ here
    came t (inl before) = go (cases_eq (t - 1) i)
      where
        go : (t - 1 ≡ i) ⊎ (t - 1 ≡ i → ⊥) → slice_get (set now i number) (t - 1) ≡ Some number
        go (inl same) = ap (slice_get (set now i number)) same ∙ here
        go (inr ne) = told_other now i (t - 1) number ne ∙ r.came t before

-- those who are moved are the kernel's threads
pub moved_known : (n : ℕ) (hs : List ℕ) (bs : List Sleepers) (told : List ℕ) (key m i : ℕ) (moved : List ℕ) → Sound n hs bs → Remembers told n bs → i ≡ key % length bs → moved ≡ take m (queue (bucket_at bs i) key)
    → All (λ t. (1 ≤ t) × (t ≤ length told)) moved
moved_known n hs bs told key m i moved s r at firsts = subst (All (λ t. (1 ≤ t) × (t ≤ length told))) (sym (firsts ∙ ap (λ (j : ℕ). take m (queue (bucket_at bs j) key)) at))
    (All-weaker (Contains (take m (queue_in bs key))) (λ t. (1 ≤ t) × (t ≤ length told)) (λ t c.
    let id = s.0.known key t (contains_take m (queue_in bs key) t c) in let len = r.long in (id.0, omega (arith, id.1))) (take m (queue_in bs key)) (All-contains_itself (take m (queue_in bs key))))

-- the numbers of a vector, all of which may have been written
pub refilled_told : (k : ℕ) (before now : List ℕ) → length now ≡ k → now ≡ take k (now ++ drop (length now) before)
refilled_told k before now long = sym (ap (λ j. take j (now ++ drop (length now) before)) (sym long) ∙ take-append_seam now (drop (length now) before))
