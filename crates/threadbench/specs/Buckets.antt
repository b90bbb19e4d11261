-- The futex hash buckets of a bench.
use Rattle.std.specs.Prelude.{ℕ, ◌≡◌, List, Some, All, slice_get}
use Rattle.threadbench.specs.declared.numbered.Numbered.{Numbered}

-- each bucket has the number of its place, from 0 on
abbrev pub AreNumbered : List Numbered → Type 0
AreNumbered buckets = (i : ℕ) (b : Numbered) → slice_get buckets i ≡ Some b → b.number ≡ i

-- each was made for this many threads
abbrev pub HaveRoomFor : ℕ → List Numbered → Type 0
HaveRoomFor threads buckets = All (λ (b : Numbered). b.threads ≡ threads) buckets
