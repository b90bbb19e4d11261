-- The sleepers of a hash bucket, and the queue of each key (futex(2)).
--
-- *Queue of a key.* The threads that sleep on a key, in the order in which they began to. A wait appends, a wake takes
-- the first ones, a removal takes one out; other keys stay; a thread stands once at most. Source: futex(2).
--
-- *Moving sleepers.* The first n of a key's queue, or all where there are fewer, are taken out of it and put at the end
-- of another queue, in order: of another key in the same bucket, or of any key in another bucket. Every other queue of
-- both stays. A move into another bucket fits where that has room for those moved and none of them stands in it.
-- Source: futex(2), FUTEX_REQUEUE.
use Rattle.std.specs.Prelude.{ℕ, ◌≡◌, ◌≢◌, ◌≤◌, ◌+◌, ◌==◌, Bool, not, List, [], ◌∷◌, ◌++◌, length, map}
use Rattle.std.specs.Prelude.{filter, take, drop, if◌then◌else◌, All, AllPairs, Contains, MatchBool}
use Rattle.lockword.specs.Threads.{most_threads}
use Rattle.buckets.specs.declared.sleeper.Sleeper.{Sleeper}

-- who sleeps in a bucket with room for this many. Of those on one key, who came earlier stands first; the order
-- between keys says nothing
pub record Sleepers : Type 0 where
  pub capacity : ℕ
  pub sleeping : List Sleeper

-- the threads among them that sleep on key k
unfoldable pub threads_on : ℕ → List Sleeper → List ℕ
threads_on k sleeping = map (λ s. s.thread) (filter (λ s. s.key.0 == k) sleeping)

-- the queue of key k: its sleepers' ids, in the order in which they are to be woken
abbrev pub queue : Sleepers → ℕ → List ℕ
queue b k = threads_on k b.sleeping

-- how many threads stand, in all queues together
abbrev pub standing : Sleepers → ℕ
standing b = length b.sleeping

-- thread t stands in a queue
abbrev pub Stands : Sleepers → ℕ → Type 0
Stands b t = (k : ℕ) × Contains (queue b k) t

-- thread t stands in no queue
abbrev pub StandsNowhere : Sleepers → ℕ → Type 0
StandsNowhere b t = (k : ℕ) → ¬ Contains (queue b k) t

-- a list of ids without thread t
abbrev pub without : ℕ → List ℕ → List ℕ
without t ids = filter (λ u. not (u == t)) ids

-- there is room for 1 to `most_threads`, and no more stand
pub record HasRoom (capacity : ℕ) (sleeping : List Sleeper) : Type 0 where
  pub first : 1 ≤ capacity
  pub last : capacity ≤ most_threads
  pub enough : length sleeping ≤ capacity

-- no two of the sleepers are one thread
abbrev pub StandOnce : List Sleeper → Type 0
StandOnce sleeping = AllPairs (λ s r. s.thread ≢ r.thread) sleeping

-- what a bucket always is: it has room for 1 to `most_threads`, no more stand, no thread stands twice, in one queue or
-- in two, and no thread is counted twice: whoever lists all that stand lists as many as stand, or more
pub record IsOrderly (b : Sleepers) : Type 0 where
  pub first : 1 ≤ b.capacity
  pub last : b.capacity ≤ most_threads
  pub room : standing b ≤ b.capacity
  pub long : (k : ℕ) → length (queue b k) ≤ standing b
  pub few : (threads : List ℕ) → ((k t : ℕ) → Contains (queue b k) t → Contains threads t) → standing b ≤ length threads
  pub one_place : (k : ℕ) → AllPairs (λ t u. t ≢ u) (queue b k)
  pub one_queue : (t k j : ℕ) → Contains (queue b k) t → Contains (queue b j) t → k ≡ j

-- no thread stands, and there is room for this many
pub record IsEmptied (b : Sleepers) (room : ℕ) : Type 0 where
  pub capacity : b.capacity ≡ room
  pub nobody : standing b ≡ 0
  pub queues : (k : ℕ) → queue b k ≡ []

-- the thread was put at the end of the key's queue, and every other queue stays
pub record Enqueues (old new : Sleepers) (thread key : ℕ) : Type 0 where
  pub queues : (k : ℕ) → queue new k ≡ (if k == key then queue old k ++ thread ∷ [] else queue old k)
  pub one_more : standing new ≡ standing old + 1
  pub capacity : new.capacity ≡ old.capacity

-- the first n of the key's queue, or all where there are fewer, were taken out of it, and every other queue stays
pub record Takes (old new : Sleepers) (key n : ℕ) (taken : List ℕ) : Type 0 where
  pub firsts : taken ≡ take n (queue old key)
  pub queues : (k : ℕ) → queue new k ≡ (if k == key then drop n (queue old k) else queue old k)
  pub fewer : standing new + length taken ≡ standing old
  pub capacity : new.capacity ≡ old.capacity

-- the threads were put at the end of the key's queue, in order, and every other queue stays
pub record Joins (old new : Sleepers) (threads : List ℕ) (key : ℕ) : Type 0 where
  pub queues : (k : ℕ) → queue new k ≡ (if k == key then queue old k ++ threads else queue old k)
  pub more : standing new ≡ standing old + length threads
  pub capacity : new.capacity ≡ old.capacity

-- the first n of the key's queue, or all where there are fewer, were taken out of it and put at the end of another
-- queue of the bucket, in order, and every other queue stays
pub record MovesWithin (old new : Sleepers) (key n to : ℕ) (moved : List ℕ) : Type 0 where
  pub firsts : moved ≡ take n (queue old key)
  pub left : queue new key ≡ drop n (queue old key)
  pub joined : queue new to ≡ queue old to ++ moved
  pub others : (k : ℕ) → k ≢ key → k ≢ to → queue new k ≡ queue old k
  pub as_many : standing new ≡ standing old
  pub capacity : new.capacity ≡ old.capacity

-- the same into a queue of another bucket, `other`: each bucket's other queues stay
pub record MovesTo (old new other_old other_new : Sleepers) (key n to : ℕ) (moved : List ℕ) : Type 0 where
  pub leave : Takes old new key n moved
  pub join : Joins other_old other_new moved to

-- the first n of the key's queue, or all where there are fewer, can be put into another bucket: it has room for them,
-- and none of them stands in it
pub record Fits (b other : Sleepers) (key n : ℕ) : Type 0 where
  pub room : standing other + length (take n (queue b key)) ≤ other.capacity
  pub awake : All (StandsNowhere other) (take n (queue b key))

-- the thread was taken out of the queue it was in, if it stood, and everybody else stays
pub record Removes (old new : Sleepers) (thread : ℕ) (stood : Bool) : Type 0 where
  pub answer : MatchBool stood (Stands old thread) (StandsNowhere old thread)
  pub queues : (k : ℕ) → queue new k ≡ without thread (queue old k)
  pub fewer : standing new + (if stood then 1 else 0) ≡ standing old
  pub capacity : new.capacity ≡ old.capacity
