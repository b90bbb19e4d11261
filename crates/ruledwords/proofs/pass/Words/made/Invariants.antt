use Rattle.std.proofs.Common.{◌≡◌, ℕ, ◌+◌, ◌-◌, [], length, slice_get, Some}
use Rattle.ruledwords.specs.Rules.{card_of, hand, first_card}
use Rattle.ruledwords.proofs.pass.Words.made.Given as goal

abbrev pub invariant-loop-before : goal.invariant-loop-before
invariant-loop-before l = record {
  table : l.seat.table_id ≡ l.places.table.shared.table_id;
  left : l.seat.me ≡ (hand l.fn.layout l.fn.presets (l.before + 1) (l.fn.layout.threads - l.before), []);
  count : length l.passes.items ≡ l.before;
  dealt : (j : ℕ) (p : _) → slice_get l.passes.items j ≡ Some p → (p.seat.table_id ≡ l.places.table.shared.table_id) × (card_of p.seat.me.0 ≡ first_card l.fn.layout l.fn.presets (j + 1));
}
