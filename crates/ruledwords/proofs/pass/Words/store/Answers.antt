use Rattle.std.proofs.Common.{◌≡◌, ℕ, ◌<◌, refl, sym, subst}
use mathlib.Core.Option.{none}
use Rattle.atomic_table.specs.Table.{step}
use Rattle.ruledwords.specs.OwnWords.{knowing, stored}
use Rattle.ruledwords.specs.Rules.{card_of}
use Rattle.ruledwords.proofs.OwnWords.{own_place, stores}
use Rattle.ruledwords.proofs.Turned.{at_one, turned}
use Rattle.ruledwords.proofs.pass.Words.store.Goals as goal

pub store-requires-clause-step : goal.store-requires-clause-step
store-requires-clause-step c =
    let k = c.args.self.now.layout in
    let slots = c.args.self.now.places.table.shared.table_id.slots in
    let own = c.requires.own in (
      c.requires.table,
      subst (λ (n : ℕ). c.args.at < n) (sym c.args.self.now.wide) (own_place k (card_of c.args.seat.now.me.0) c.args.at c.requires.thread own).2,
      at_one _ k slots _ _ c.args.at c.args.seat.now.me (λ n. c.args.value) (λ q m n. stored (step slots q c.args.value 0 none) m c.args.value) c.args.self.now.key refl c.requires.one (stores k slots _ _ c.args.at c.args.value own),
    )

pub returns-clause-one : goal.returns-clause-one
returns-clause-one c = (turned _ _ (λ a b. b ≡ knowing a c.args.at c.args.value) c.requires.one c.store.ensures.2).0

pub returns-clause-card : goal.returns-clause-card
returns-clause-card c = (turned _ _ (λ a b. b ≡ knowing a c.args.at c.args.value) c.requires.one c.store.ensures.2).1
