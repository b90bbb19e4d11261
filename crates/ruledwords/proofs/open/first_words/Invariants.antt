use Rattle.std.proofs.Common.{◌≡◌, ℕ, ◌<◌, length}
use Rattle.std.specs.Prelude.{slice_index}
use Rattle.ruledwords.specs.Rules.{opening_word}
use Rattle.ruledwords.proofs.open.first_words.Given as goal

abbrev pub invariant-loop-place : goal.invariant-loop-place
invariant-loop-place l = record {
  count : length l.words.items ≡ l.place;
  each : (p : ℕ) → p < l.place → slice_index l.words.items p ≡ opening_word l.layout l.presets p;
}
