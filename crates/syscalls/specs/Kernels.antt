-- The sleepers of every key and the robust list's head of every thread, as a kernel keeps them (futex(2),
-- get_robust_list(2)).
--
-- *Wait and wake.* Each call is made with a base and an address, and is about the word at the address's place
-- (`seen_at`). A thread falls asleep exactly where the address is valid and the low half of its word is the expected
-- value; else EFAULT or EAGAIN, and nothing is changed. A wake answers the first of the word's queue, in order, and
-- leaves the others. Source: futex(2), FUTEX_WAIT and FUTEX_WAKE.
use Rattle.std.specs.Prelude.{ℕ, ◌≡◌, ◌≢◌, ◌<◌, ◌≤◌, ◌%◌, ◌-◌, ◌==◌, Bool, List, [], ◌∷◌, ◌++◌, length, take, drop}
use Rattle.std.specs.Prelude.{slice_index, slice_index_or, slice_get, Some, if◌then◌else◌, AllPairs, Contains}
use Rattle.std.specs.Prelude.{MatchBool}
use Rattle.lockword.specs.Threads.{most_threads}
use Rattle.buckets.specs.BucketCount.{bucket_count}
use Rattle.buckets.specs.Queues.{Sleepers, queue, without, IsOrderly}

-- hash buckets and heads for this many threads. What calls speak of is each key's queue, `queue_of`, and each
-- thread's head, `head_of`
pub record Kernel' : Type 0 where
  pub threads : ℕ
  pub buckets : List Sleepers
  pub heads : List ℕ

abbrev pub nobody : Sleepers
nobody = record { capacity = 0; sleeping = [] }

-- bucket number i, from 0 on
abbrev pub bucket_at : List Sleepers → ℕ → Sleepers
bucket_at buckets i = slice_index_or buckets i nobody

-- the queue of a key in its bucket: who sleeps on the key, in the order in which they are to be woken
abbrev pub queue_in : List Sleepers → ℕ → List ℕ
queue_in buckets key = queue (bucket_at buckets (key % length buckets)) key

abbrev pub queue_of : Kernel' → ℕ → List ℕ
queue_of k key = queue_in k.buckets key

-- the address of thread t's robust list head, as it was last set; 0 before any. Ids begin at 1
abbrev pub head_of : Kernel' → ℕ → ℕ
head_of k t = slice_index k.heads (t - 1)

-- the size of a robust list's head, in bytes
abbrev pub head_size : ℕ
head_size = 24

-- thread t stands in a queue, or in none
abbrev pub IsAsleep : Kernel' → ℕ → Type 0
IsAsleep k t = (key : ℕ) × Contains (queue_of k key) t

abbrev pub IsAwake : Kernel' → ℕ → Type 0
IsAwake k t = (key : ℕ) → ¬ Contains (queue_of k key) t

-- what the queues of a kernel always are: of threads 1 to `most_threads` at most, each of which stands once at most, in
-- one queue or in two
pub record IsKernel (k : Kernel') : Type 0 where
  pub first : 1 ≤ k.threads
  pub last : k.threads ≤ most_threads
  pub known : (key t : ℕ) → Contains (queue_of k key) t → (1 ≤ t) × (t ≤ k.threads)
  pub one_place : (key : ℕ) → AllPairs (λ t u. t ≢ u) (queue_of k key)
  pub one_queue : (t key other : ℕ) → Contains (queue_of k key) t → Contains (queue_of k other) t → key ≡ other
  pub heads : length k.heads ≡ k.threads

-- what its buckets always are: each has room for every thread, and sleepers on its own keys alone
pub record HasBuckets (k : Kernel') : Type 0 where
  pub count : length k.buckets ≡ bucket_count
  pub orderly : (i : ℕ) → i < length k.buckets → IsOrderly (bucket_at k.buckets i)
  pub room : (i : ℕ) → i < length k.buckets → (bucket_at k.buckets i).capacity ≡ k.threads
  pub home : (i key : ℕ) → i < length k.buckets → key % length k.buckets ≢ i → queue (bucket_at k.buckets i) key ≡ []

-- a bucket has the queues of the keys whose bucket is number i, and of no others
pub record HasQueuesOf (k : Kernel') (i : ℕ) (b : Sleepers) : Type 0 where
  pub own : (key : ℕ) → key % bucket_count ≡ i → queue b key ≡ queue_of k key
  pub others : (key : ℕ) → key % bucket_count ≢ i → queue b key ≡ []

-- whoever is in a bucket is in that whose number is recorded of the thread
abbrev pub StandWhereTold : List ℕ → List Sleepers → Type 0
StandWhereTold told buckets =
    (i key t : ℕ) → i < length buckets → Contains (queue (bucket_at buckets i) key) t → slice_get told (t - 1) ≡ Some i

-- the number of a bucket is recorded of each of this many threads, and whoever stands is there
pub record Remembers (told : List ℕ) (threads : ℕ) (buckets : List Sleepers) : Type 0 where
  pub long : length told ≡ threads
  pub stand : StandWhereTold told buckets

-- nobody sleeps and each head is 0, of this many threads
pub record IsIdle (k : Kernel') (count : ℕ) : Type 0 where
  pub threads : k.threads ≡ count
  pub queues : (key : ℕ) → queue_of k key ≡ []
  pub heads : (t : ℕ) → head_of k t ≡ 0

-- the thread fell asleep: it was put at the end of the key's queue, and every other queue and each head stays
pub record FallsAsleep (old new : Kernel') (thread key : ℕ) : Type 0 where
  pub queues : (k : ℕ) → queue_of new k ≡ (if k == key then queue_of old key ++ thread ∷ [] else queue_of old k)
  pub threads : new.threads ≡ old.threads
  pub heads : new.heads ≡ old.heads

-- the first n of the key's queue, or all where there are fewer, were woken: they were taken out of it, and every other
-- queue and each head stays
pub record Wakes (old new : Kernel') (key n : ℕ) (woken : List ℕ) : Type 0 where
  pub firsts : woken ≡ take n (queue_of old key)
  pub queues : (k : ℕ) → queue_of new k ≡ (if k == key then drop n (queue_of old key) else queue_of old k)
  pub threads : new.threads ≡ old.threads
  pub heads : new.heads ≡ old.heads

-- the first n of the one key's queue, or all where there are fewer, were moved to the end of the other key's queue, in
-- order; every other queue and each head stays
pub record Moves (old new : Kernel') (from n to : ℕ) (moved : List ℕ) : Type 0 where
  pub firsts : moved ≡ take n (queue_of old from)
  pub left : queue_of new from ≡ drop n (queue_of old from)
  pub joined : queue_of new to ≡ queue_of old to ++ moved
  pub others : (k : ℕ) → k ≢ from → k ≢ to → queue_of new k ≡ queue_of old k
  pub threads : new.threads ≡ old.threads
  pub heads : new.heads ≡ old.heads

-- the first of the one key's queue, `wake` at most, were woken: they were taken out of it; and then the first of the
-- rest, `moves` at most, were moved to the end of the other key's queue, in order; every other queue and each head
-- stays
pub record Requeues (old new : Kernel') (from wake to moves : ℕ) (woken moved : List ℕ) : Type 0 where
  pub firsts : woken ≡ take wake (queue_of old from)
  pub next : moved ≡ take moves (drop wake (queue_of old from))
  pub left : queue_of new from ≡ drop moves (drop wake (queue_of old from))
  pub joined : queue_of new to ≡ queue_of old to ++ moved
  pub others : (k : ℕ) → k ≢ from → k ≢ to → queue_of new k ≡ queue_of old k
  pub threads : new.threads ≡ old.threads
  pub heads : new.heads ≡ old.heads

-- the thread was taken out of the queue it was in, if it stood, and everybody else and each head stays
pub record Leaves (old new : Kernel') (thread : ℕ) (slept : Bool) : Type 0 where
  pub answer : MatchBool slept (IsAsleep old thread) (IsAwake old thread)
  pub queues : (k : ℕ) → queue_of new k ≡ without thread (queue_of old k)
  pub threads : new.threads ≡ old.threads
  pub heads : new.heads ≡ old.heads

-- the thread's head was set, and every other head and each queue stays
pub record SetsHead (old new : Kernel') (thread head : ℕ) : Type 0 where
  pub heads : (t : ℕ) → 1 ≤ t → head_of new t ≡ (if t == thread then head else head_of old t)
  pub queues : (k : ℕ) → queue_of new k ≡ queue_of old k
  pub threads : new.threads ≡ old.threads
