-- The buckets of a kernel, one of which is replaced.
use Rattle.std.proofs.Common.{◌≡◌, ◌≢◌, ℕ, ◌+◌, ◌-◌, ◌<◌, ◌≤◌, List, length, set, sym, ap, ◌∙◌, subst, ◌⊎◌, inl, inr, arith}
use Rattle.std.specs.Prelude.{◌%◌, Contains, remove}
use Rattle.std.specs.List.{range_with_len}
use Rattle.std.proofs.Math.Nat.{mod-lt}
use Rattle.std.proofs.lemmas.Bool.{cases_lt, cases_eq}
use Rattle.std.proofs.lemmas.List.{get_or-set_same, get_or-set_other, length-set}
use Rattle.std.proofs.lemmas.List.Edits.{length-remove, get_or-remove_below, get_or-remove_above}
use Rattle.std.proofs.lemmas.List.FromFn.{get_or-range_with_len, length-range_with_len}
use Rattle.buckets.specs.Queues.{Sleepers, queue, standing, StandsNowhere}
use Rattle.syscalls.specs.Kernels.{Kernel', nobody, bucket_at, queue_in, IsAwake, IsKernel, HasBuckets}

abbrev pub kernel : ℕ → List ℕ → List Sleepers → Kernel'
kernel n hs bs = record { threads = n; buckets = bs; heads = hs }

pub at_same : (bs : List Sleepers) (i : ℕ) (b : Sleepers) → i < length bs → bucket_at (set bs i b) i ≡ b
at_same bs i b lt = get_or-set_same bs i b nobody lt

pub at_other : (bs : List Sleepers) (i j : ℕ) (b : Sleepers) → j ≢ i → bucket_at (set bs i b) j ≡ bucket_at bs j
at_other bs i j b ne = get_or-set_other bs i j b nobody ne

-- the bucket of a key, among as many
pub number_same : (bs : List Sleepers) (i : ℕ) (b : Sleepers) (k : ℕ) → k % length (set bs i b) ≡ k % length bs
number_same bs i b k = ap (λ m. k % m) (length-set bs i b)

-- the queue of a key of the bucket that was replaced, and of another one
pub queue_here : (bs : List Sleepers) (i : ℕ) (b : Sleepers) (k : ℕ) → i < length bs → k % length bs ≡ i → queue_in (set bs i b) k ≡ queue b k
queue_here bs i b k lt is = ap (λ (c : Sleepers). queue c k) (ap (bucket_at (set bs i b)) (number_same bs i b k ∙ is) ∙ at_same bs i b lt)

pub queue_there : (bs : List Sleepers) (i : ℕ) (b : Sleepers) (k : ℕ) → k % length bs ≢ i → queue_in (set bs i b) k ≡ queue_in bs k
queue_there bs i b k ne = ap (λ (c : Sleepers). queue c k) (ap (bucket_at (set bs i b)) (number_same bs i b k) ∙ at_other bs i (k % length bs) b ne)

-- what holds of each key's queue in its bucket, and of each other key's that stays, holds of all queues
pub queues_set : (bs : List Sleepers) (i : ℕ) (b : Sleepers) (f : ℕ → List ℕ → List ℕ) → i < length bs
    → ((k : ℕ) → queue b k ≡ f k (queue (bucket_at bs i) k)) → ((k : ℕ) → k % length bs ≢ i → f k (queue_in bs k) ≡ queue_in bs k)
    → (k : ℕ) → queue_in (set bs i b) k ≡ f k (queue_in bs k)
queues_set bs i b f lt here there k = go (cases_eq (k % length bs) i)
  where
    go : (k % length bs ≡ i) ⊎ (k % length bs ≡ i → ⊥) → queue_in (set bs i b) k ≡ f k (queue_in bs k)
    go (inl e) = queue_here bs i b k lt e ∙ here k ∙ ap (λ (j : ℕ). f k (queue (bucket_at bs j) k)) (sym e)
    go (inr ne) = queue_there bs i b k ne ∙ sym (there k ne)

-- who is in a bucket stands in the queue of a key of that bucket
pub stands_home : (n : ℕ) (hs : List ℕ) (bs : List Sleepers) (i k t : ℕ) → HasBuckets (kernel n hs bs) → i < length bs → Contains (queue (bucket_at bs i) k) t → (k % length bs ≡ i) × Contains (queue_in bs k) t
stands_home n hs bs i k t has lt c = go (cases_eq (k % length bs) i)
  where
    go : (k % length bs ≡ i) ⊎ (k % length bs ≡ i → ⊥) → (k % length bs ≡ i) × Contains (queue_in bs k) t
    go (inl e) = (e, subst (λ (j : ℕ). Contains (queue (bucket_at bs j) k) t) (sym e) c)
    go (inr ne) = let none = ap length (has.home i k lt ne) in absurd (omega (arith, none, c.1))

-- the bucket of a key is one of them
pub inside : (n : ℕ) (hs : List ℕ) (bs : List Sleepers) (k : ℕ) → HasBuckets (kernel n hs bs) → k % length bs < length bs
inside n hs bs k has = let count = has.count in mod-lt k (omega arith)

-- who sleeps nowhere is in no bucket
pub awake_nowhere : (n : ℕ) (hs : List ℕ) (bs : List Sleepers) (i t : ℕ) → HasBuckets (kernel n hs bs) → i < length bs → IsAwake (kernel n hs bs) t → StandsNowhere (bucket_at bs i) t
awake_nowhere n hs bs i t has lt awake k c = awake k (stands_home n hs bs i k t has lt c).1

-- the ids from 1 to n without one of them
others : ℕ → ℕ → List ℕ
others n t = remove (range_with_len 1 n) (t - 1)

length-others : (n t : ℕ) → 1 ≤ t → t ≤ n → length (others n t) + 1 ≡ n
unfolding others
length-others n t low high =
    let len = length-range_with_len 1 n in
    length-remove (range_with_len 1 n) (t - 1) (omega arith) ∙ len

contains_others : (n t u : ℕ) → 1 ≤ t → t ≤ n → 1 ≤ u → u ≤ n → u ≢ t → Contains (others n t) u
unfolding others
contains_others n t u low high from to ne = go (cases_lt u t)
  where
    ids : List ℕ
    ids = range_with_len 1 n

    go : (u < t) ⊎ (t ≤ u) → Contains (remove (range_with_len 1 n) (t - 1)) u
    go (inl lt) =
        let len = length-range_with_len 1 n in
        let less = length-remove (range_with_len 1 n) (t - 1) (omega arith) in
        let is : 1 + (u - 1) ≡ u = omega arith in
        (u - 1, omega arith, get_or-remove_below (range_with_len 1 n) (t - 1) u (u - 1) (omega arith) (omega arith) ∙ get_or-range_with_len 1 n (u - 1) u (omega arith) ∙ is)
    go (inr ge) =
        let len = length-range_with_len 1 n in
        let less = length-remove (range_with_len 1 n) (t - 1) (omega arith) in
        let is : 1 + ((u - 2) + 1) ≡ u = omega arith in
        (u - 2, omega arith, get_or-remove_above (range_with_len 1 n) (t - 1) u (u - 2) (omega arith) (omega arith) ∙ get_or-range_with_len 1 n ((u - 2) + 1) u (omega arith) ∙ is)

-- there is room for a thread that sleeps nowhere
pub room_left : (n : ℕ) (hs : List ℕ) (bs : List Sleepers) (i t : ℕ) → IsKernel (kernel n hs bs) → HasBuckets (kernel n hs bs) → i < length bs → 1 ≤ t → t ≤ n → IsAwake (kernel n hs bs) t
    → standing (bucket_at bs i) < (bucket_at bs i).capacity
room_left n hs bs i t is has lt low high awake =
    let few = (has.orderly i lt).few (others n t) all in
    let len = length-others n t low high in
    let cap = has.room i lt in
    omega arith
  where
    all : (k u : ℕ) → Contains (queue (bucket_at bs i) k) u → Contains (others n t) u
    all k u c =
        let at = (stands_home n hs bs i k u has lt c).1 in
        let id = is.known k u at in
        contains_others n t u low high id.0 id.1 (λ same. awake k (subst (Contains (queue_in bs k)) same at))
