-- What the counters of condition variables say of the calls that were made (pthread_cond_signal,
-- pthread_cond_broadcast).
--
-- *What counters say.* The counters of a mutex's condition variables, added up, are what they were at first
-- (`presets_in`), and one more for each point of the mutex's history that counts: a signal or a broadcast that was
-- returned OK. Where none counts, each of them is what it was. Source: pthread_cond_signal(3p),
-- pthread_cond_broadcast(3p).
use Rattle.std.specs.Prelude.{◌≡◌, ℕ, ◌+◌, ◌<◌, ◌==◌, List, [], ◌∷◌, length, slice_index, if◌then◌else◌}
use Rattle.posixmutex.specs.declared.point.Point.{Point}
use Rattle.memorymap.specs.Layouts.{Layout', cell_place, counter_place}
use Rattle.condvar.specs.Laws.{reply_counts}
use Rattle.ruledwords.specs.Cards.{at}

-- how many of these points count: the signals and the broadcasts that were returned OK
abbrev pub counts_in : List Point → ℕ
counts_in [] = 0
counts_in (x ∷ xs) = reply_counts x.operation x.reply + counts_in xs

-- the counters of mutex m's condition variables, added up; the first of the list has the number q
abbrev pub total_of : ℕ → List ℕ → (ℕ → ℕ) → ℕ → ℕ
total_of m [] counter q = 0
total_of m (n ∷ ns) counter q = (if n == m then counter q else 0) + total_of m ns counter (q + 1)

-- the counter of condition variable q
abbrev pub counter_in : Layout' → List ℕ → ℕ → ℕ
counter_in k ws q = slice_index ws (counter_place k q)

-- the mutex of condition variable q, and the place of its cell
abbrev pub mutex_at : Layout' → ℕ → ℕ
mutex_at k q = slice_index k.conditions q

abbrev pub cell_at : Layout' → ℕ → ℕ
cell_at k q = cell_place k (mutex_at k q)

-- the counters of each mutex's condition variables, added up, are what they were at first, and one more for each point
-- of its history that counts. Where none counts, each is what it was
pub record Counted (k : Layout') (presets ws : List ℕ) (js : List (List Point)) : Type 0 where
  pub sums : (m : ℕ) → m < k.mutexes
      → total_of m k.conditions (counter_in k ws) 0
      ≡ total_of m k.conditions (slice_index presets) 0 + counts_in (at js (cell_place k m))
  pub still : (q : ℕ) → q < length k.conditions → counts_in (at js (cell_at k q)) ≡ 0
      → counter_in k ws q ≡ slice_index presets q
