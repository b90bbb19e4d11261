use Rattle.std.proofs.Common.{◌≡◌, ℕ, ◌<◌, length}
use Rattle.std.specs.Prelude.{slice_index}
use Rattle.cachelines.specs.Spread.{slot_of, slots_for}
use Rattle.cachelines.proofs.places.apart.Given as goal

abbrev pub invariant-loop-place : goal.invariant-loop-place
invariant-loop-place l = record {
  count : length l.apart.items ≡ slots_for (length l.words);
  each : (p : ℕ) → p < l.place → slice_index l.apart.items (slot_of p) ≡ slice_index l.words p;
}
