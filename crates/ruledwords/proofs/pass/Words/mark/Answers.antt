use Rattle.std.proofs.Common.{◌==◌, ℕ, ◌<◌, sym, subst}
use mathlib.Core.Option.{none}
use prog.Atomic.{either}
use Rattle.atomic_table.specs.Table.{step}
use Rattle.memorymap.specs.Layouts.{Layout', cell_place}
use Rattle.ruledwords.specs.Deaths.{marked, Marks}
use Rattle.ruledwords.specs.Rules.{card_of}
use Rattle.ruledwords.proofs.Keepers.{inside}
use Rattle.ruledwords.proofs.Marking.{marks_placed}
use Rattle.ruledwords.proofs.Turned.{at_one, turned}
use Rattle.ruledwords.proofs.pass.Words.mark.Goals as goal

pub compare_exchange-requires-clause-step : goal.compare_exchange-requires-clause-step
compare_exchange-requires-clause-step g c =
    let k = c.args.self.now.layout in
    let slots = c.args.self.now.places.table.shared.table_id.slots in
    let m = c.requires.place.0 in (
      c.requires.table,
      subst (λ (z : ℕ × ℕ). z.0 < z.1) (λ i. (sym c.requires.place.2 i, sym c.args.self.now.wide i)) (inside k m c.requires.place.1),
      at_one _ k slots _ _ (cell_place k m) c.args.seat.now.me (λ n. either (n == c.args.expected) c.args.new n) (λ q. marked g.L.Placing.layout (step slots q c.args.expected c.args.new none)) c.args.self.now.key c.requires.place.2 c.requires.one
          (marks_placed k g.L.Placing.layout slots _ (card_of c.args.seat.now.me.0) m c.args.expected c.args.new c.requires.layout c.requires.place.1 c.requires.thread c.requires.owner c.requires.new),
    )

pub returns-clause-one : goal.returns-clause-one
returns-clause-one g c = (turned _ _ (λ a b. Marks g.L.Placing.layout c.args.at c.args.expected a c.compare_exchange.result b) c.requires.one (c.compare_exchange.ensures.2)).0

pub returns-clause-marks : goal.returns-clause-marks
returns-clause-marks g c = subst (λ (z : Layout'). Marks z c.args.at c.args.expected (card_of c.args.seat.now.me.0) c.compare_exchange.result (card_of c.compare_exchange.new.seat.me.0)) c.requires.layout
    (turned _ _ (λ a b. Marks g.L.Placing.layout c.args.at c.args.expected a c.compare_exchange.result b) c.requires.one (c.compare_exchange.ensures.2)).1
