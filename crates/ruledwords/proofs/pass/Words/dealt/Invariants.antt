use Rattle.std.proofs.Common.{◌≡◌, [], All, map, take, drop}
use Rattle.ruledwords.specs.Aways.{kind_of, IsAt}
use Rattle.ruledwords.specs.Meetings.{card_in, is_first}
use Rattle.ruledwords.proofs.pass.Words.dealt.Given as goal

abbrev pub invariant-loop-away : goal.invariant-loop-away
invariant-loop-away g l = record {
  table : l.seat.table_id ≡ l.self.places.table.shared.table_id;
  left : l.seat.me ≡ (drop l.away-index l.fn.seat.me.0, []);
  cards : map card_in l.passes.items ≡ take l.away-index l.fn.seat.me.0;
  kinds : map is_first l.passes.items ≡ map kind_of (take l.away-index l.aways);
  at : All (λ p. IsAt l.self p) l.passes.items;
}
