use Rattle.std.proofs.Common.{◌≡◌, ℕ, ◌<◌, sym, subst}
use mathlib.Core.Option.{none}
use Rattle.atomic_table.specs.Table.{step}
use Rattle.memorymap.specs.Layouts.{cell_place}
use Rattle.ruledwords.specs.Deaths.{examined, remembering, MindsWaiters}
use Rattle.ruledwords.specs.Looks.{Finds}
use Rattle.ruledwords.proofs.Keepers.{inside}
use Rattle.ruledwords.proofs.Marking.{examines}
use Rattle.ruledwords.proofs.Turned.{at_one, turned}
use Rattle.ruledwords.proofs.pass.Words.examine.Goals as goal

pub load-requires-clause-step : goal.load-requires-clause-step
load-requires-clause-step c =
    let k = c.args.self.now.layout in
    let slots = c.args.self.now.places.table.shared.table_id.slots in
    let m = c.requires.place.0 in (
      c.requires.table,
      subst (λ (z : ℕ × ℕ). z.0 < z.1) (λ i. (sym c.requires.place.2 i, sym c.args.self.now.wide i)) (inside k m c.requires.place.1),
      at_one _ k slots _ _ (cell_place k m) c.args.seat.now.me (λ n. n) (λ q. examined (step slots q 0 0 none)) c.args.self.now.key c.requires.place.2 c.requires.one (examines k slots _ _ m c.requires.place.1),
    )

pub returns-clause-one : goal.returns-clause-one
returns-clause-one c = (turned _ _ (λ a b. (b ≡ remembering a c.args.at c.load.result) × Finds a c.args.at c.load.result × MindsWaiters a c.args.at c.load.result) c.requires.one (c.load.ensures.2)).0

pub returns-clause-card : goal.returns-clause-card
returns-clause-card c = (turned _ _ (λ a b. (b ≡ remembering a c.args.at c.load.result) × Finds a c.args.at c.load.result × MindsWaiters a c.args.at c.load.result) c.requires.one (c.load.ensures.2)).1.0

pub returns-clause-finds : goal.returns-clause-finds
returns-clause-finds c = (turned _ _ (λ a b. (b ≡ remembering a c.args.at c.load.result) × Finds a c.args.at c.load.result × MindsWaiters a c.args.at c.load.result) c.requires.one (c.load.ensures.2)).1.1

pub returns-clause-minds : goal.returns-clause-minds
returns-clause-minds c = (turned _ _ (λ a b. (b ≡ remembering a c.args.at c.load.result) × Finds a c.args.at c.load.result × MindsWaiters a c.args.at c.load.result) c.requires.one (c.load.ensures.2)).1.2
