-- Where threads sleep.
use Rattle.std.specs.Prelude.{ℕ, ◌≡◌, ◌+◌, List, Some, slice_get}
use Rattle.threadbench.specs.declared.parker.Parker.{Parker}

-- a parker for each thread, in the order of their ids
abbrev pub AreParkers : List Parker → Type 0
AreParkers parkers = (i : ℕ) (p : Parker) → slice_get parkers i ≡ Some p → p.thread ≡ i + 1
