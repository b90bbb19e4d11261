-- How far apart the words of threads and of mutexes lie in memory.
use Rattle.std.specs.Prelude.{ℕ, ◌+◌, ◌<◌, ◌≤◌, ◌≢◌, ◌⊎◌}
use Rattle.cachelines.specs.Spread.{slot_of}
use Rattle.memorymap.specs.Layouts.{Layout', head_place, cell_place}

-- the words of two places lie eight words apart at least, which are 64 bytes: so no cache line has both
abbrev pub LieApart : ℕ → ℕ → Type 0
LieApart p q = (slot_of p + 8 ≤ slot_of q) ⊎ (slot_of q + 8 ≤ slot_of p)

-- of a layout: the three words of a thread's head and those of another thread's; a mutex's cell and its two links and
-- those of another mutex; and a head and a mutex
pub record AreApart (k : Layout') : Type 0 where
  pub heads : (t u i j : ℕ) → 1 ≤ t → 1 ≤ u → t ≢ u → i < 3 → j < 3 → LieApart (head_place t + i) (head_place u + j)
  pub mutexes : (m l i j : ℕ) → m ≢ l → i < 3 → j < 3 → LieApart (cell_place k m + i) (cell_place k l + j)
  pub both : (t m i j : ℕ) → 1 ≤ t → t ≤ k.threads → i < 3 → j < 3 → LieApart (head_place t + i) (cell_place k m + j)

abbrev pub HeadsAndMutexesLieApart : Type 0
HeadsAndMutexesLieApart = (k : Layout') → AreApart k
