use Rattle.std.proofs.Common.{◌≡◌, ◌+◌, ℕ, ◌<◌, ◌==◌, ◌∙◌, sym, ap, subst}
use Rattle.std.specs.Prelude.{if◌then◌else◌}
use mathlib.Core.Option.{none}
use prog.Atomic.{either}
use Rattle.atomic_table.specs.Table.{step}
use Rattle.memorymap.specs.Layouts.{cell_place}
use Rattle.ruledwords.specs.declared.pass.Card.{Card}
use Rattle.ruledwords.specs.Seen.{held}
use Rattle.ruledwords.specs.Changes.{Writes}
use Rattle.ruledwords.specs.Looks.{Finds, noted, trimmed}
use Rattle.ruledwords.proofs.Keepers.{inside}
use Rattle.ruledwords.proofs.Trims.{trims}
use Rattle.ruledwords.proofs.Turned.{at_one, turned}
use Rattle.ruledwords.proofs.pass.Words.trim_cell.Goals as goal

pub compare_exchange-requires-clause-step : goal.compare_exchange-requires-clause-step
compare_exchange-requires-clause-step c =
    let k = c.args.self.now.layout in
    let slots = c.args.self.now.places.table.shared.table_id.slots in
    let m = c.requires.place.0 in (
      c.requires.table,
      subst (λ (z : ℕ × ℕ). z.0 < z.1) (λ i. (sym c.requires.place.2 i, sym c.args.self.now.wide i)) (inside k m c.requires.place.1),
      at_one _ k slots _ _ (cell_place k m) c.args.pass.now.seat.me (λ n. either (n == 0x8000_0000) 0 n) (λ q. trimmed (step slots q 0x8000_0000 0 none)) c.args.self.now.key c.requires.place.2 c.args.pass.now.one (trims k slots _ _ m c.requires.place.1),
    )

pub invariant_of-pass : goal.invariant_of-pass
invariant_of-pass c =
    let r = turned _ _ (λ a b. (0x8000_0000 ≡ 0x8000_0000) × (0 ≡ 0) × (b ≡ noted a c.compare_exchange.result (a.trims + 1) b.changes) × Finds a c.args.at c.compare_exchange.result × Writes a c.args.at c.compare_exchange.result (if c.compare_exchange.result == 0x8000_0000 then 0 else c.compare_exchange.result) b) c.args.pass.now.one (c.compare_exchange.ensures.2) in
    record {
      one = r.0;
      own = ap (λ (z : Card). z.thread) r.1.2 ∙ c.args.pass.now.own;
      count = c.args.pass.now.count ∙ sym (ap held r.1.2);
      few = c.args.pass.now.few;
    }

pub returns-clause-card : goal.returns-clause-card
returns-clause-card c = (turned _ _ (λ a b. (0x8000_0000 ≡ 0x8000_0000) × (0 ≡ 0) × (b ≡ noted a c.compare_exchange.result (a.trims + 1) b.changes) × Finds a c.args.at c.compare_exchange.result × Writes a c.args.at c.compare_exchange.result (if c.compare_exchange.result == 0x8000_0000 then 0 else c.compare_exchange.result) b) c.args.pass.now.one (c.compare_exchange.ensures.2)).1.2

pub returns-clause-finds : goal.returns-clause-finds
returns-clause-finds c = (turned _ _ (λ a b. (0x8000_0000 ≡ 0x8000_0000) × (0 ≡ 0) × (b ≡ noted a c.compare_exchange.result (a.trims + 1) b.changes) × Finds a c.args.at c.compare_exchange.result × Writes a c.args.at c.compare_exchange.result (if c.compare_exchange.result == 0x8000_0000 then 0 else c.compare_exchange.result) b) c.args.pass.now.one (c.compare_exchange.ensures.2)).1.3

pub returns-clause-writes : goal.returns-clause-writes
returns-clause-writes c = (turned _ _ (λ a b. (0x8000_0000 ≡ 0x8000_0000) × (0 ≡ 0) × (b ≡ noted a c.compare_exchange.result (a.trims + 1) b.changes) × Finds a c.args.at c.compare_exchange.result × Writes a c.args.at c.compare_exchange.result (if c.compare_exchange.result == 0x8000_0000 then 0 else c.compare_exchange.result) b) c.args.pass.now.one (c.compare_exchange.ensures.2)).1.4
