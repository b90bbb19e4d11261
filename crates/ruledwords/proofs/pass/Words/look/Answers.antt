use Rattle.std.proofs.Common.{◌≡◌, ℕ, ◌<◌, ◌∙◌, sym, ap, subst}
use mathlib.Core.Option.{none}
use Rattle.atomic_table.specs.Table.{step}
use Rattle.memorymap.specs.Layouts.{cell_place}
use Rattle.ruledwords.specs.declared.pass.Card.{Card}
use Rattle.ruledwords.specs.Seen.{held}
use Rattle.ruledwords.specs.Looks.{Finds, noted, looked}
use Rattle.ruledwords.proofs.Keepers.{inside}
use Rattle.ruledwords.proofs.Looks.{looks}
use Rattle.ruledwords.proofs.Turned.{at_one, turned}
use Rattle.ruledwords.proofs.pass.Words.look.Goals as goal

pub load-requires-clause-step : goal.load-requires-clause-step
load-requires-clause-step c =
    let k = c.args.self.now.layout in
    let slots = c.args.self.now.places.table.shared.table_id.slots in
    let m = c.requires.place.0 in (
      c.requires.table,
      subst (λ (z : ℕ × ℕ). z.0 < z.1) (λ i. (sym c.requires.place.2 i, sym c.args.self.now.wide i)) (inside k m c.requires.place.1),
      at_one _ k slots _ _ (cell_place k m) c.args.pass.now.seat.me (λ n. n) (λ q. looked (step slots q 0 0 none)) c.args.self.now.key c.requires.place.2 c.args.pass.now.one (looks k slots _ _ m c.requires.place.1),
    )

pub invariant_of-pass : goal.invariant_of-pass
invariant_of-pass c =
    let r = turned _ _ (λ a b. (b ≡ noted a c.load.result a.trims a.changes) × Finds a c.args.at c.load.result) c.args.pass.now.one (c.load.ensures.2) in
    record {
      one = r.0;
      own = ap (λ (z : Card). z.thread) r.1.0 ∙ c.args.pass.now.own;
      count = c.args.pass.now.count ∙ sym (ap held r.1.0);
      few = c.args.pass.now.few;
    }

pub returns-clause-card : goal.returns-clause-card
returns-clause-card c = (turned _ _ (λ a b. (b ≡ noted a c.load.result a.trims a.changes) × Finds a c.args.at c.load.result) c.args.pass.now.one (c.load.ensures.2)).1.0

pub returns-clause-finds : goal.returns-clause-finds
returns-clause-finds c = (turned _ _ (λ a b. (b ≡ noted a c.load.result a.trims a.changes) × Finds a c.args.at c.load.result) c.args.pass.now.one (c.load.ensures.2)).1.1
