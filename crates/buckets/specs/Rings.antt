-- The rows of the threads that sleep, and the rings through them.
--
-- *The rows of a bucket.* There are `most_threads`, that of thread t at index t - 1. A thread that stands in no queue
-- has none. One that stands in a queue has its key, and those before and after it: in the ring of those after it in
-- the queue, those in front of it and then itself again, the last and the first. `AreRings` says that the fields of a
-- bucket are such rings, and `sleeping_of` who sleeps by them.
use Rattle.std.specs.Prelude.{ℕ, zero, suc, ◌≡◌, ◌≢◌, ◌-◌, ◌≤◌, ◌==◌, nat_le, List, [], ◌∷◌, ◌++◌}
use Rattle.std.specs.Prelude.{length, map, get_or, slice_get, Option, Some, None, if◌then◌else◌}
use Rattle.lockword.specs.Threads.{most_threads}
use Rattle.buckets.specs.declared.row.Row.{Row}
use Rattle.buckets.specs.declared.ring.Ring.{Ring}
use Rattle.buckets.specs.declared.sleeper.Sleeper.{Sleeper}
use Rattle.buckets.specs.Queues.{Sleepers, queue, StandsNowhere}

-- the row of thread t
abbrev pub row_of : List (Option Row) → ℕ → Option Row
row_of rows t = get_or (None ∷ rows) t None

-- the first of a list, or d
abbrev pub first_or : List ℕ → ℕ → ℕ
first_or [] d = d
first_or (t ∷ ts) d = t

-- the last of a list, or d
abbrev pub last_or : ℕ → List ℕ → ℕ
last_or d [] = d
last_or d (t ∷ ts) = last_or t ts

-- the row of a thread on key k between two threads
abbrev pub row : ℕ → ℕ → ℕ → Row
row k b a = record { key = record { 0 = k }; before = b; after = a }

-- what the rows of a bucket are: that of thread t is at index t - 1. A thread that stands in no queue has none; one
-- that stands in a queue has its key and, in the ring of those after it, those before it and then itself again, the
-- last of them and the first
pub record AreRows (rows : List (Option Row)) (b : Sleepers) : Type 0 where
  pub long : length rows ≡ most_threads
  pub awake : (t : ℕ) → 1 ≤ t → t ≤ most_threads → StandsNowhere b t → slice_get rows (t - 1) ≡ Some None
  pub asleep : (k t : ℕ) (earlier later : List ℕ) → queue b k ≡ earlier ++ t ∷ later
      → slice_get rows (t - 1) ≡ Some (Some (row k (last_or t (later ++ earlier)) (first_or (later ++ earlier) t)))

-- a thread's row after a change
abbrev pub put : (ℕ → Option Row) → ℕ → Option Row → ℕ → Option Row
put w t r u = if u == t then r else w u

abbrev pub with_after : ℕ → Option Row → Option Row
with_after n None = None
with_after n (Some r) = Some (row r.key.0 r.before n)

abbrev pub with_before : ℕ → Option Row → Option Row
with_before p None = None
with_before p (Some r) = Some (row r.key.0 p r.after)

-- the rows after p and n were made neighbours
abbrev pub joined : (ℕ → Option Row) → ℕ → ℕ → ℕ → Option Row
joined w p n = put (put w p (with_after n (w p))) n (with_before p (put w p (with_after n (w p)) n))

-- the rows after thread t, a ring of its own, was put after the last thread of the ring that begins with f, whose row
-- is given
abbrev pub behind : Option Row → (ℕ → Option Row) → ℕ → ℕ → ℕ → Option Row
behind None w t f = w
behind (Some r) w t f = joined (joined w r.before t) t f

-- the thread after t in its ring
abbrev pub next_or : Option Row → ℕ → ℕ
next_or None t = t
next_or (Some r) t = r.after

-- this many threads of a ring, from t on
abbrev pub follow : (ℕ → Option Row) → ℕ → ℕ → List ℕ
follow w zero t = []
follow w (suc n) t = t ∷ follow w n (next_or (w t) t)

-- these threads stand one after the other on key k, between b and a
abbrev pub Linked : (ℕ → Option Row) → ℕ → ℕ → List ℕ → ℕ → Type 0
Linked w k b [] a = Unit {0}
Linked w k b (t ∷ ts) a = (w t ≡ Some (row k b (first_or ts a))) × Linked w k t ts a

-- these threads are a ring on key k
abbrev pub IsRing : (ℕ → Option Row) → ℕ → List ℕ → Type 0
IsRing w k ids = Linked w k (last_or 0 ids) ids (first_or ids 0)

-- the threads of a ring, in order
abbrev pub ids_of : (ℕ → Option Row) → Ring → List ℕ
ids_of w r = follow w r.count r.first.thread

-- threads that sleep on one key
abbrev pub all_on : ℕ → List ℕ → List Sleeper
all_on k ids = map (λ t. record { thread = t; key = record { 0 = k } }) ids

-- who sleeps, ring by ring
abbrev pub sleeping_of : (ℕ → Option Row) → List Ring → List Sleeper
sleeping_of w [] = []
sleeping_of w (r ∷ rs) = all_on r.first.key.0 (ids_of w r) ++ sleeping_of w rs

-- the threads of all rings
abbrev pub ids_in : (ℕ → Option Row) → List Ring → List ℕ
ids_in w [] = []
ids_in w (r ∷ rs) = ids_of w r ++ ids_in w rs

-- a ring with a thread less, that begins with h
abbrev pub shorter : Ring → ℕ → Ring
shorter r h = record { first = record { thread = h; key = r.first.key }; count = r.count - 1 }

-- what is left of a ring that thread t leaves, a being the thread after it
abbrev pub left_of : Ring → ℕ → ℕ → List Ring
left_of r t a = if nat_le r.count 1 then [] else shorter r (if r.first.thread == t then a else r.first.thread) ∷ []

-- no ring has key k
abbrev pub NoneOn : ℕ → List Ring → Type 0
NoneOn k [] = Unit {0}
NoneOn k (r ∷ rs) = (r.first.key.0 ≢ k) × NoneOn k rs

-- somebody is in each ring, each is a ring through the rows, and no two have one key
abbrev pub AreLinked : (ℕ → Option Row) → List Ring → Type 0
AreLinked w [] = Unit {0}
AreLinked w (r ∷ rs) = (1 ≤ r.count) × IsRing w r.first.key.0 (ids_of w r) × NoneOn r.first.key.0 rs × AreLinked w rs

-- thread t is none of these
abbrev pub NotIn : ℕ → List ℕ → Type 0
NotIn t [] = Unit {0}
NotIn t (u ∷ us) = (u ≢ t) × NotIn t us

-- these threads are all different
abbrev pub Once : List ℕ → Type 0
Once [] = Unit {0}
Once (t ∷ ts) = NotIn t ts × Once ts

-- what the fields of a bucket always are: there is room for 1 to `most_threads`, no more stand, and they are counted;
-- the rings are rings through the rows, no thread is in two places, and who stands in none has no row
pub record AreRings (capacity standing : ℕ) (w : ℕ → Option Row) (rings : List Ring) : Type 0 where
  pub first : 1 ≤ capacity
  pub last : capacity ≤ most_threads
  pub enough : standing ≤ capacity
  pub counted : length (ids_in w rings) ≡ standing
  pub once : Once (ids_in w rings)
  pub linked : AreLinked w rings
  pub idle : (t : ℕ) → NotIn t (ids_in w rings) → w t ≡ None
