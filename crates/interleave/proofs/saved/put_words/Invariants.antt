use Rattle.std.proofs.Common.{ℕ, ◌≡◌, ◌<◌, length}
use Rattle.std.specs.Prelude.{slice_index}
use Rattle.interleave.proofs.saved.put_words.Given as goal

abbrev pub invariant-loop-place : goal.invariant-loop-place
invariant-loop-place l = record {
  count : length l.memory ≡ length l.words;
  null : slice_index l.memory 0 ≡ slice_index l.words 0;
  done : (k : ℕ) → k < l.place → slice_index l.memory k ≡ slice_index l.words k;
}
