-- What each call does to the queues.
use Rattle.std.proofs.Common.{◌≡◌, ◌≢◌, ℕ, ◌+◌, ◌<◌, ◌≤◌, Bool, true, false, List, [], ◌∷◌, ◌++◌, length, set, drop, Option, Some, None, refl, sym, ap, ◌∙◌, subst, ◌⊎◌, inl, inr, arith, eqb-true}
use Rattle.std.specs.Prelude.{◌%◌, ◌-◌, ◌==◌, slice_index, replicate, Contains, All, MatchBool, MatchOption, is_some, not, if◌then◌else◌}
use Rattle.std.proofs.Math.Nat.{mod-lt}
use Rattle.std.proofs.lemmas.Bool.{cases_eq, eqb-false}
use Rattle.std.proofs.lemmas.List.{length-set, length-replicate, get_or-set_same, get_or-set_other}
use Rattle.std.proofs.lemmas.Grind.{common_steps}
use Rattle.std.proofs.lemmas.List.Elements.{All-weaker, All-drop, All-filter, All-contains, All-contains_itself, Contains-push_cases}
use Rattle.buckets.specs.Queues.{Sleepers, queue, Stands, StandsNowhere, without, IsOrderly, IsEmptied, Enqueues, Takes, Removes}
use Rattle.buckets.proofs.Places.{without-none}
use Rattle.buckets.specs.BucketCount.{bucket_count}
use Rattle.syscalls.specs.Kernels.{nobody, bucket_at, queue_in, IsAsleep, IsAwake, IsKernel, HasBuckets, IsIdle, FallsAsleep, Wakes, Leaves, SetsHead}
use Rattle.syscalls.proofs.Buckets.{kernel, at_same, at_other, number_same, queue_here, queue_there, queues_set, stands_home, inside}
use Rattle.lockword.specs.Threads.{most_threads}

-- what a kernel is, and what its buckets are
abbrev pub Sound : ℕ → List ℕ → List Sleepers → Type 0
Sound n hs bs = IsKernel (kernel n hs bs) × HasBuckets (kernel n hs bs)

nobody_in : (ids : List ℕ) → ((t : ℕ) → ¬ Contains ids t) → ids ≡ []
nobody_in [] h = refl
nobody_in (t ∷ ids) h = absurd (h t (0, omega arith, refl))

-- ---- a bucket is replaced by one where those stand that was there, and those that J says of a key and a thread

-- J says at most one thing of a thread: a key of bucket i; and only of threads that slept nowhere
record Joins (n : ℕ) (hs : List ℕ) (bs : List Sleepers) (i : ℕ) (J : ℕ → ℕ → Type 0) : Type 0 where
  pub home : (k t : ℕ) → J k t → k % length bs ≡ i
  pub known : (k t : ℕ) → J k t → (1 ≤ t) × (t ≤ n)
  pub awake : (k t : ℕ) → J k t → IsAwake (kernel n hs bs) t
  pub one : (k j t : ℕ) → J k t → J j t → k ≡ j

Comes : List Sleepers → ℕ → Sleepers → (ℕ → ℕ → Type 0) → Type 0
Comes bs i b J = (k t : ℕ) → Contains (queue b k) t → Contains (queue (bucket_at bs i) k) t ⊎ J k t

comes_home : (n : ℕ) (hs : List ℕ) (bs : List Sleepers) (i : ℕ) (b : Sleepers) (J : ℕ → ℕ → Type 0) → HasBuckets (kernel n hs bs) → i < length bs → Joins n hs bs i J → Comes bs i b J
    → (k t : ℕ) → Contains (queue_in (set bs i b) k) t → Contains (queue_in bs k) t ⊎ J k t
unfolding Comes
comes_home n hs bs i b J has lt joins comes k t c = go (cases_eq (k % length bs) i)
  where
    mine : (k % length bs ≡ i) → Contains (queue (bucket_at bs i) k) t ⊎ J k t → Contains (queue_in bs k) t ⊎ J k t
    mine e (inl old) = inl (stands_home n hs bs i k t has lt old).1
    mine e (inr new) = inr new

    go : (k % length bs ≡ i) ⊎ (k % length bs ≡ i → ⊥) → Contains (queue_in bs k) t ⊎ J k t
    go (inl e) = mine e (comes k t (subst (λ (q : List ℕ). Contains q t) (queue_here bs i b k lt e) c))
    go (inr ne) = inl (subst (λ (q : List ℕ). Contains q t) (queue_there bs i b k ne) c)

kept_buckets : (n : ℕ) (hs : List ℕ) (bs : List Sleepers) (i : ℕ) (b : Sleepers) (J : ℕ → ℕ → Type 0) → HasBuckets (kernel n hs bs) → i < length bs → IsOrderly b → b.capacity ≡ n → Joins n hs bs i J → Comes bs i b J
    → HasBuckets (kernel n hs (set bs i b))
unfolding Comes
kept_buckets n hs bs i b J has lt orderly capacity joins comes = record {
  count = length-set bs i b ∙ has.count;
  orderly = λ j below. by IsOrderly j below orderly (λ in' ne. has.orderly j in');
  room = λ j below. by (λ (c : Sleepers). c.capacity ≡ n) j below capacity (λ in' ne. has.room j in');
  home = λ j k below ne. at_home j k below (subst (λ (m : ℕ). m ≢ j) (number_same bs i b k) ne);
}
  where
    by : (P : Sleepers → Type 0) (j : ℕ) → j < length (set bs i b) → P b → (j < length bs → j ≢ i → P (bucket_at bs j)) → P (bucket_at (set bs i b) j)
    by P j below new old = go (cases_eq j i)
      where
        go : (j ≡ i) ⊎ (j ≡ i → ⊥) → P (bucket_at (set bs i b) j)
        go (inl e) = subst P (sym (ap (bucket_at (set bs i b)) e ∙ at_same bs i b lt)) new
        go (inr ne) = let len = length-set bs i b in subst P (sym (at_other bs i j b ne)) (old (omega arith) ne)

    nobody_new : (k t : ℕ) → k % length bs ≢ i → Contains (queue (bucket_at bs i) k) t ⊎ J k t → ⊥
    nobody_new k t ne (inl old) = ne (stands_home n hs bs i k t has lt old).0
    nobody_new k t ne (inr new) = ne (joins.home k t new)

    mine : (k : ℕ) → k % length bs ≢ i → queue b k ≡ []
    mine k ne = nobody_in (queue b k) (λ t c. nobody_new k t ne (comes k t c))

    at_home : (j k : ℕ) → j < length (set bs i b) → k % length bs ≢ j → queue (bucket_at (set bs i b) j) k ≡ []
    at_home j k below ne = go (cases_eq j i)
      where
        go : (j ≡ i) ⊎ (j ≡ i → ⊥) → queue (bucket_at (set bs i b) j) k ≡ []
        go (inl e) = ap (λ (c : Sleepers). queue c k) (ap (bucket_at (set bs i b)) e ∙ at_same bs i b lt) ∙ mine k (λ same. ne (same ∙ sym e))
        go (inr other) = let len = length-set bs i b in ap (λ (c : Sleepers). queue c k) (at_other bs i j b other) ∙ has.home j k (omega arith) ne

kept_kernel : (n : ℕ) (hs : List ℕ) (bs : List Sleepers) (i : ℕ) (b : Sleepers) (J : ℕ → ℕ → Type 0) → IsKernel (kernel n hs bs) → HasBuckets (kernel n hs bs) → HasBuckets (kernel n hs (set bs i b)) → i < length bs → Joins n hs bs i J → Comes bs i b J
    → IsKernel (kernel n hs (set bs i b))
kept_kernel n hs bs i b J is has new lt joins comes = record {
  first = is.first;
  last = is.last;
  known = λ k t c. known k t (from k t c);
  one_place = λ k. (new.orderly (k % length (set bs i b)) (inside n hs (set bs i b) k new)).one_place k;
  one_queue = λ t k j a c. one t k j (from k t a) (from j t c);
  heads = is.heads;
}
  where
    from : (k t : ℕ) → Contains (queue_in (set bs i b) k) t → Contains (queue_in bs k) t ⊎ J k t
    from k t c = comes_home n hs bs i b J has lt joins comes k t c

    known : (k t : ℕ) → Contains (queue_in bs k) t ⊎ J k t → (1 ≤ t) × (t ≤ n)
    known k t (inl old) = is.known k t old
    known k t (inr joined) = joins.known k t joined

    one : (t k j : ℕ) → Contains (queue_in bs k) t ⊎ J k t → Contains (queue_in bs j) t ⊎ J j t → k ≡ j
    one t k j (inl a) (inl c) = is.one_queue t k j a c
    one t k j (inr a) (inr c) = joins.one k j t a c
    one t k j (inl a) (inr c) = absurd (joins.awake j t c k a)
    one t k j (inr a) (inl c) = absurd (joins.awake k t a j c)

kept : (n : ℕ) (hs : List ℕ) (bs : List Sleepers) (i : ℕ) (b : Sleepers) (J : ℕ → ℕ → Type 0) → Sound n hs bs → i < length bs → IsOrderly b → b.capacity ≡ n → Joins n hs bs i J → Comes bs i b J → Sound n hs (set bs i b)
kept n hs bs i b J s lt orderly capacity joins comes =
    let new = kept_buckets n hs bs i b J s.1 lt orderly capacity joins comes in
    (kept_kernel n hs bs i b J s.0 s.1 new lt joins comes, new)

-- nobody joins
none_joins : (n : ℕ) (hs : List ℕ) (bs : List Sleepers) (i : ℕ) → Joins n hs bs i (λ k t. ⊥)
none_joins n hs bs i = record {
  home = λ k t j. absurd j;
  known = λ k t j. absurd j;
  awake = λ k t j. absurd j;
  one = λ k j t a b. absurd a;
}

kept_fewer : (n : ℕ) (hs : List ℕ) (bs : List Sleepers) (i : ℕ) (b : Sleepers) → Sound n hs bs → i < length bs → IsOrderly b → b.capacity ≡ n → ((k t : ℕ) → Contains (queue b k) t → Contains (queue (bucket_at bs i) k) t) → Sound n hs (set bs i b)
unfolding Comes
kept_fewer n hs bs i b s lt orderly capacity fewer = kept n hs bs i b (λ k t. ⊥) s lt orderly capacity (none_joins n hs bs i) (λ k t c. inl (fewer k t c))

-- ---- a thread falls asleep

comes_asleep : (bs : List Sleepers) (i : ℕ) (b : Sleepers) (t key : ℕ) → Enqueues (bucket_at bs i) b t key → Comes bs i b (λ k u. (k ≡ key) × (u ≡ t))
unfolding Comes
comes_asleep bs i b t key e k u c = go (k == key) refl (e.queues k)
  where
    pushed : k ≡ key → Contains (queue (bucket_at bs i) k) u ⊎ (t ≡ u) → Contains (queue (bucket_at bs i) k) u ⊎ ((k ≡ key) × (u ≡ t))
    pushed same (inl old) = inl old
    pushed same (inr new) = inr (same, sym new)

    go : (d : Bool) → (k == key) ≡ d → queue b k ≡ (if d then queue (bucket_at bs i) k ++ t ∷ [] else queue (bucket_at bs i) k) → Contains (queue (bucket_at bs i) k) u ⊎ ((k ≡ key) × (u ≡ t))
    go true same is = pushed (eqb-true _ _ same) (Contains-push_cases (queue (bucket_at bs i) k) t u (subst (λ (q : List ℕ). Contains q u) is c))
    go false same is = inl (subst (λ (q : List ℕ). Contains q u) is c)

pub sound_asleep : (n : ℕ) (hs : List ℕ) (bs : List Sleepers) (b : Sleepers) (t key : ℕ) → Sound n hs bs → 1 ≤ t → t ≤ n → IsAwake (kernel n hs bs) t → IsOrderly b → Enqueues (bucket_at bs (key % length bs)) b t key
    → Sound n hs (set bs (key % length bs) b)
sound_asleep n hs bs b t key s low high awake orderly e =
    let lt = inside n hs bs key s.1 in
    kept n hs bs (key % length bs) b (λ k u. (k ≡ key) × (u ≡ t)) s lt orderly (e.capacity ∙ s.1.room (key % length bs) lt) joins (comes_asleep bs (key % length bs) b t key e)
  where
    joins : Joins n hs bs (key % length bs) (λ k u. (k ≡ key) × (u ≡ t))
    joins = record {
      home = λ k u j. ap (λ m. m % length bs) j.0;
      known = λ k u j. subst (λ (v : ℕ). (1 ≤ v) × (v ≤ n)) (sym j.1) (low, high);
      awake = λ k u j. subst (IsAwake (kernel n hs bs)) (sym j.1) awake;
      one = λ k j u a c. a.0 ∙ sym c.0;
    }

pub falls_asleep : (n : ℕ) (hs : List ℕ) (bs : List Sleepers) (b : Sleepers) (t key : ℕ) → Sound n hs bs → Enqueues (bucket_at bs (key % length bs)) b t key → FallsAsleep (kernel n hs bs) (kernel n hs (set bs (key % length bs) b)) t key
falls_asleep n hs bs b t key s e = record {
  queues = λ k. queues_set bs (key % length bs) b (λ k q. if k == key then q ++ t ∷ [] else q) (inside n hs bs key s.1) e.queues (λ k ne. other k ne (k == key) refl) k ∙ its_own k (k == key) refl;
  threads = refl;
  heads = refl;
}
  where
    other : (k : ℕ) → k % length bs ≢ key % length bs → (d : Bool) → (k == key) ≡ d → (if d then queue_in bs k ++ t ∷ [] else queue_in bs k) ≡ queue_in bs k
    other k ne true same = absurd (ne (ap (λ m. m % length bs) (eqb-true _ _ same)))
    other k ne false same = refl

    its_own : (k : ℕ) (d : Bool) → (k == key) ≡ d → (if d then queue_in bs k ++ t ∷ [] else queue_in bs k) ≡ (if d then queue_in bs key ++ t ∷ [] else queue_in bs k)
    its_own k true same = ap (λ (j : ℕ). queue_in bs j ++ t ∷ []) (eqb-true _ _ same)
    its_own k false same = refl

-- ---- the first are woken

pub contains_drop : (m : ℕ) (ids : List ℕ) (u : ℕ) → Contains (drop m ids) u → Contains ids u
contains_drop m ids u c = All-contains (Contains ids) (drop m ids) u (All-drop (Contains ids) m ids (All-contains_itself ids)) c

pub sound_awoken : (n : ℕ) (hs : List ℕ) (bs : List Sleepers) (b : Sleepers) (key m : ℕ) (woken : List ℕ) → Sound n hs bs → IsOrderly b → Takes (bucket_at bs (key % length bs)) b key m woken → Sound n hs (set bs (key % length bs) b)
sound_awoken n hs bs b key m woken s orderly e =
    let lt = inside n hs bs key s.1 in
    kept_fewer n hs bs (key % length bs) b s lt orderly (e.capacity ∙ s.1.room (key % length bs) lt) (λ k u c. go k u (k == key) (subst (λ (q : List ℕ). Contains q u) (e.queues k) c))
  where
    go : (k u : ℕ) (d : Bool) → Contains (if d then drop m (queue (bucket_at bs (key % length bs)) k) else queue (bucket_at bs (key % length bs)) k) u → Contains (queue (bucket_at bs (key % length bs)) k) u
    go k u true c = contains_drop m (queue (bucket_at bs (key % length bs)) k) u c
    go k u false c = c

pub wakes : (n : ℕ) (hs : List ℕ) (bs : List Sleepers) (b : Sleepers) (key m : ℕ) (woken : List ℕ) → Sound n hs bs → Takes (bucket_at bs (key % length bs)) b key m woken → Wakes (kernel n hs bs) (kernel n hs (set bs (key % length bs) b)) key m woken
wakes n hs bs b key m woken s e = record {
  firsts = e.firsts;
  queues = λ k. queues_set bs (key % length bs) b (λ k q. if k == key then drop m q else q) (inside n hs bs key s.1) e.queues (λ k ne. other k ne (k == key) refl) k ∙ its_own k (k == key) refl;
  threads = refl;
  heads = refl;
}
  where
    other : (k : ℕ) → k % length bs ≢ key % length bs → (d : Bool) → (k == key) ≡ d → (if d then drop m (queue_in bs k) else queue_in bs k) ≡ queue_in bs k
    other k ne true same = absurd (ne (ap (λ j. j % length bs) (eqb-true _ _ same)))
    other k ne false same = refl

    its_own : (k : ℕ) (d : Bool) → (k == key) ≡ d → (if d then drop m (queue_in bs k) else queue_in bs k) ≡ (if d then drop m (queue_in bs key) else queue_in bs k)
    its_own k true same = ap (λ (j : ℕ). drop m (queue_in bs j)) (eqb-true _ _ same)
    its_own k false same = refl

-- ---- a thread is taken out

-- a queue without a thread that isn't in it
without-absent : (t : ℕ) (ids : List ℕ) → ¬ Contains ids t → without t ids ≡ ids
without-absent t ids none =
    without-none t ids (All-weaker (Contains ids) (λ u. u ≢ t) (λ u c same. none (subst (Contains ids) same c)) ids (All-contains_itself ids))

pub contains_without : (t : ℕ) (ids : List ℕ) (u : ℕ) → Contains (without t ids) u → Contains ids u
contains_without t ids u c = All-contains (Contains ids) (without t ids) u (All-filter (λ v. not (v == t)) (Contains ids) ids (All-contains_itself ids)) c

pub sound_left : (n : ℕ) (hs : List ℕ) (bs : List Sleepers) (i : ℕ) (b : Sleepers) (t : ℕ) (stood : Bool) → Sound n hs bs → i < length bs → IsOrderly b → Removes (bucket_at bs i) b t stood → Sound n hs (set bs i b)
sound_left n hs bs i b t stood s lt orderly e =
    kept_fewer n hs bs i b s lt orderly (e.capacity ∙ s.1.room i lt) (λ k u c. contains_without t (queue (bucket_at bs i) k) u (subst (λ (q : List ℕ). Contains q u) (e.queues k) c))

pub leaves : (n : ℕ) (hs : List ℕ) (bs : List Sleepers) (i : ℕ) (b : Sleepers) (t : ℕ) (stood : Bool) → Sound n hs bs → i < length bs → Stands (bucket_at bs i) t → Removes (bucket_at bs i) b t stood
    → Leaves (kernel n hs bs) (kernel n hs (set bs i b)) t stood
leaves n hs bs i b t stood s lt at e = record {
  answer = answer stood e.answer;
  queues = queues_set bs i b (λ k q. without t q) lt e.queues other;
  threads = refl;
  heads = refl;
}
  where
    here : (at.0 % length bs ≡ i) × Contains (queue_in bs at.0) t
    here = stands_home n hs bs i at.0 t s.1 lt at.1

    answer : (d : Bool) → MatchBool d (Stands (bucket_at bs i) t) (StandsNowhere (bucket_at bs i) t) → MatchBool d (IsAsleep (kernel n hs bs) t) (IsAwake (kernel n hs bs) t)
    answer true stands = (at.0, here.1)
    answer false nowhere = absurd (nowhere at.0 at.1)

    other : (k : ℕ) → k % length bs ≢ i → without t (queue_in bs k) ≡ queue_in bs k
    other k ne = without-absent t (queue_in bs k) (λ c. ne (ap (λ m. m % length bs) (s.0.one_queue t k at.0 c here.1) ∙ here.0))

-- ---- who sleeps

awake_everywhere : (n : ℕ) (hs : List ℕ) (bs : List Sleepers) (t : ℕ) → Sound n hs bs → ((i : ℕ) → i < length bs → StandsNowhere (bucket_at bs i) t) → IsAwake (kernel n hs bs) t
awake_everywhere n hs bs t s nowhere key c = nowhere (key % length bs) (inside n hs bs key s.1) key c

pub leaves_nobody : (n : ℕ) (hs : List ℕ) (bs : List Sleepers) (t : ℕ) → Sound n hs bs → ((i : ℕ) → i < length bs → StandsNowhere (bucket_at bs i) t) → Leaves (kernel n hs bs) (kernel n hs bs) t false
leaves_nobody n hs bs t s nowhere = record {
  answer = awake_everywhere n hs bs t s nowhere;
  queues = λ k. sym (without-absent t (queue_in bs k) (awake_everywhere n hs bs t s nowhere k));
  threads = refl;
  heads = refl;
}

pub sought : (n : ℕ) (hs : List ℕ) (bs : List Sleepers) (t : ℕ) (found : Option ℕ) → Sound n hs bs
    → MatchOption found ((i : ℕ) → i < length bs → StandsNowhere (bucket_at bs i) t) (λ i. (i < length bs) × Stands (bucket_at bs i) t)
    → MatchBool (is_some found) (IsAsleep (kernel n hs bs) t) (IsAwake (kernel n hs bs) t)
sought n hs bs t None s nowhere = awake_everywhere n hs bs t s nowhere
sought n hs bs t (Some i) s at = (at.1.0, (stands_home n hs bs i at.1.0 t s.1 at.0 at.1.1).1)

-- ---- a new kernel

empty_queue : (bs : List Sleepers) (n i k : ℕ) → All (λ b. IsEmptied b n) bs → i < length bs → queue (bucket_at bs i) k ≡ []
empty_queue bs n i k emptied lt = (emptied i nobody lt).queues k

-- each head that was never set
zero_heads : (n i : ℕ) (hs : List ℕ) → hs ≡ replicate n 0 → slice_index hs i ≡ 0
zero_heads n i hs zeros = ap (λ (xs : List ℕ). slice_index xs i) zeros ∙ grind (arith, common_steps)

pub idle : (n : ℕ) (hs : List ℕ) (bs : List Sleepers) → hs ≡ replicate n 0 → length bs ≡ bucket_count → All (λ b. IsEmptied b n) bs → IsIdle (kernel n hs bs) n
idle n hs bs zeros count emptied = record { threads = refl; queues = λ k. empty_queue bs n (k % length bs) k emptied (mod-lt k (omega arith)); heads = λ t. zero_heads n (t - 1) hs zeros }

pub sound_idle : (n : ℕ) (hs : List ℕ) (bs : List Sleepers) → hs ≡ replicate n 0 → 1 ≤ n → n ≤ most_threads → length bs ≡ bucket_count → All (λ b. IsEmptied b n) bs → All IsOrderly bs → Sound n hs bs
sound_idle n hs bs zeros low high count emptied orderly = (
  record {
    first = low;
    last = high;
    known = λ k t c. absurd (nobody_there k t c);
    one_place = λ k. (orderly (k % length bs) nobody (mod-lt k (omega arith))).one_place k;
    one_queue = λ t k j a c. absurd (nobody_there k t a);
    heads = ap length zeros ∙ length-replicate n 0;
  },
  record {
    count = count;
    orderly = λ i lt. orderly i nobody lt;
    room = λ i lt. (emptied i nobody lt).capacity;
    home = λ i k lt ne. empty_queue bs n i k emptied lt;
  },
)
  where
    nobody_there : (k t : ℕ) → ¬ Contains (queue_in bs k) t
    nobody_there k t c = let none = ap length ((idle n hs bs zeros count emptied).queues k) in omega (arith, none, c.1)

-- ---- a head is set

pub sound_set : (n : ℕ) (hs : List ℕ) (bs : List Sleepers) (i head : ℕ) → Sound n hs bs → Sound n (set hs i head) bs
sound_set n hs bs i head s = (
  record {
    first = s.0.first;
    last = s.0.last;
    known = s.0.known;
    one_place = s.0.one_place;
    one_queue = s.0.one_queue;
    heads = length-set hs i head ∙ s.0.heads;
  },
  record {
    count = s.1.count;
    orderly = s.1.orderly;
    room = s.1.room;
    home = s.1.home;
  },
)

pub sets_head : (n : ℕ) (hs : List ℕ) (bs : List Sleepers) (t i head : ℕ) → Sound n hs bs → i + 1 ≡ t → t ≤ n → SetsHead (kernel n hs bs) (kernel n (set hs i head) bs) t head
sets_head n hs bs t i head s at high = record {
  heads = λ u low. go u low (u == t) refl;
  queues = λ k. refl;
  threads = refl;
}
  where
    go : (u : ℕ) → 1 ≤ u → (d : Bool) → (u == t) ≡ d → slice_index (set hs i head) (u - 1) ≡ (if d then head else slice_index hs (u - 1))
    go u low true same =
        let is : u - 1 ≡ i = let e = eqb-true _ _ same in omega arith in
        let long = s.0.heads in
        ap (slice_index (set hs i head)) is ∙ get_or-set_same hs i head 0 (omega arith)
    go u low false same = get_or-set_other hs i (u - 1) head 0 (λ is. eqb-false u t same (omega (arith, is)))
