-- Batches of thread ids in an array that has room for all.
use Rattle.std.specs.Prelude.{ℕ, ◌≡◌, ◌-◌, ◌≤◌, List, ◌++◌, length, take, replicate, All}
use Rattle.lockword.specs.Threads.{most_threads}

-- the ids in the array, and zeros after them
abbrev pub in_array : List ℕ → List ℕ
in_array ids = ids ++ replicate (most_threads - length ids) 0

-- this many places of the array are taken, each by the id of a thread, and the others are 0
pub record IsBatch (array : List ℕ) (taken : ℕ) : Type 0 where
  pub room : taken ≤ most_threads
  pub ids : All (λ t. (1 ≤ t) × (t ≤ most_threads)) (take taken array)
  pub long : length (take taken array) ≡ taken
  pub zeros : in_array (take taken array) ≡ array
