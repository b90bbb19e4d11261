-- The places of the shared words, and the keys that sleepers meet by.
--
-- *Layout.* 1 to 250 threads, 1 to 4,096 mutexes and at most 256 condition variables, each of one of the mutexes; 1 to 8
-- processes, each with a base of at most 1,000,000,000, and for each thread its process. `one_process` is a layout
-- whose threads are all of one process with base 0. Word 0 is null; then come the heads of the threads (first entry,
-- offset, pending entry: `struct robust_list_head`), the mutexes (the cell, then the two links of its list entry) and
-- the counters. The law `places_differ`: all of them are inside and pairwise different. At first (`first_word`) a head
-- has its own address in its thread's process, the offset -1 and no pending entry, a counter its preset, and every
-- other word is 0. Source: get_robust_list(2), robust-futex-ABI.
use Rattle.std.specs.Prelude.{ℕ, ◌≡◌, ◌+◌, ◌-◌, ◌*◌, ◌/◌, ◌%◌, ◌<◌, ◌≤◌, ◌==◌, ◌&&◌, Bool, nat_le}
use Rattle.std.specs.Prelude.{nat_lt, List, [], ◌∷◌, length, replicate, slice_index, All, if◌then◌else◌}
use Rattle.lockword.specs.Threads.{most_threads}
use Rattle.memorymap.specs.Addresses.{address_from, seen_at}

-- this many threads and mutexes, and for each condition variable the number of its mutex; for each thread the number
-- of its process, and the base at which each process maps the words
pub record Layout' : Type 0 where
  pub threads : ℕ
  pub mutexes : ℕ
  pub conditions : List ℕ
  pub processes : List ℕ
  pub bases : List ℕ

-- what a layout may be: 1 to 250 threads, 1 to 4,096 mutexes, at most 256 condition variables, each of one of the
-- mutexes
abbrev pub HasThreadsTo : ℕ → ℕ → Type 0
HasThreadsTo most threads = (1 ≤ threads) × (threads ≤ most)

abbrev pub HasThreads : ℕ → Type 0
HasThreads threads = HasThreadsTo most_threads threads

abbrev pub HasMutexes : ℕ → Type 0
HasMutexes mutexes = (1 ≤ mutexes) × (mutexes ≤ 4096)

abbrev pub HasConditions : ℕ → List ℕ → Type 0
HasConditions mutexes conditions = (length conditions ≤ 256) × All (λ m. m < mutexes) conditions

-- 1 to 8 processes
abbrev pub HasProcesses : List ℕ → Type 0
HasProcesses bases = (1 ≤ length bases) × (length bases ≤ 8)

-- each maps the words at an address of at most 1,000,000,000
abbrev pub HasBases : List ℕ → Type 0
HasBases bases = All (λ b. b ≤ 1000000000) bases

-- each thread is of one of the processes
abbrev pub AreOf : List ℕ → List ℕ → Type 0
AreOf bases processes = All (λ p. p < length bases) processes

-- a layout that may be
pub record IsLayout (l : Layout') : Type 0 where
  pub threads : HasThreads l.threads
  pub mutexes : HasMutexes l.mutexes
  pub conditions : HasConditions l.mutexes l.conditions
  pub each : length l.processes ≡ l.threads
  pub processes : HasProcesses l.bases
  pub bases : HasBases l.bases
  pub members : AreOf l.bases l.processes

-- this many threads of one process, which maps the words at 0: addresses are places
abbrev pub one_process : ℕ → ℕ → List ℕ → Layout'
one_process t m cs = record { threads = t; mutexes = m; conditions = cs; processes = replicate t 0; bases = 0 ∷ [] }

-- the place of thread t's head: its first entry, the offset, the pending entry
abbrev pub head_place : ℕ → ℕ
head_place t = 1 + 3 * (t - 1)

-- the place of mutex m's cell; its entry's two links follow
abbrev pub cell_place : Layout' → ℕ → ℕ
cell_place l m = 1 + 3 * l.threads + 3 * m

abbrev pub entry_place : Layout' → ℕ → ℕ
entry_place l m = cell_place l m + 1

-- the place of the counter of condition variable c
abbrev pub counter_place : Layout' → ℕ → ℕ
counter_place l c = 1 + 3 * l.threads + 3 * l.mutexes + c

-- how many words there are; word 0 is null
abbrev pub words_of : Layout' → ℕ
words_of l = 1 + 3 * l.threads + 3 * l.mutexes + length l.conditions

-- ---- addresses

-- the base at which thread t's process maps the words. Ids begin at 1
abbrev pub base_of : Layout' → ℕ → ℕ
base_of l t = slice_index l.bases (slice_index l.processes (t - 1))

-- the address of a place as thread t's process has it
abbrev pub address_in : Layout' → ℕ → ℕ → ℕ
address_in l t p = address_from (base_of l t) p

-- the place of an address of thread t's process
abbrev pub place_in : Layout' → ℕ → ℕ → ℕ
place_in l t at = seen_at (base_of l t) at

-- a place is at least 1, word 0 being null, and less than the number of words
abbrev pub is_place : Layout' → ℕ → Bool
is_place l p = nat_le 1 p && nat_lt p (words_of l)

-- ---- the words at first

-- -1 as an address: an entry's cell stands before the entry (the offset of robust-futex-ABI)
abbrev pub cell_offset : ℕ
cell_offset = 18446744073709551615

-- the thread among whose head's words a place is
abbrev pub thread_of : ℕ → ℕ
thread_of p = (p - 1) / 3 + 1

-- a head at first: its own address, as its thread's process has it, for the first entry, the offset, and no pending
-- entry
abbrev pub head_word : Layout' → ℕ → ℕ
head_word l p = if p % 3 == 1 then address_in l (thread_of p) p else if p % 3 == 2 then cell_offset else 0

-- the words at first: heads, mutexes that nobody owns, and counters that begin at these values
abbrev pub first_word : Layout' → (ℕ → ℕ) → ℕ → ℕ
first_word l counters p =
    if nat_lt 0 p && nat_lt p (cell_place l 0) then head_word l p
    else if nat_le (counter_place l 0) p && nat_lt p (words_of l) then counters (p - counter_place l 0) else 0

-- ---- places

-- a word of a layout, by what it is for: one of the three words of a thread's head or of a mutex, or a counter
pub data Spot : Type 0 where
  of_head : (thread word : ℕ) → Spot
  of_mutex : (mutex word : ℕ) → Spot
  of_counter : (condition : ℕ) → Spot

abbrev pub IsIn : Layout' → Spot → Type 0
IsIn l (of_head t k) = (1 ≤ t) × (t ≤ l.threads) × (k < 3)
IsIn l (of_mutex m k) = (m < l.mutexes) × (k < 3)
IsIn l (of_counter c) = c < length l.conditions

abbrev pub place_of : Layout' → Spot → ℕ
place_of l (of_head t k) = head_place t + k
place_of l (of_mutex m k) = cell_place l m + k
place_of l (of_counter c) = counter_place l c

-- every word of a layout has a valid place, and no other word has it
abbrev pub PlacesDiffer : Type 0
PlacesDiffer = (l : Layout') (a : Spot) → IsIn l a
    → (1 ≤ place_of l a) × (place_of l a < words_of l) × ((b : Spot) → IsIn l b → place_of l b ≡ place_of l a → b ≡ a)
