use Rattle.std.proofs.Common.{ℕ, ◌<◌, ◌∙◌, refl, sym, subst}
use mathlib.Core.Option.{none}
use Rattle.atomic_table.specs.Table.{step}
use Rattle.ruledwords.specs.OwnWords.{recalled}
use Rattle.ruledwords.proofs.OwnWords.{recalls}
use Rattle.ruledwords.proofs.Turned.{at_one}
use Rattle.ruledwords.proofs.pass.Words.recall.Goals as goal

pub load-requires-clause-step : goal.load-requires-clause-step
load-requires-clause-step c =
    let k = c.args.self.now.layout in
    let slots = c.args.self.now.places.table.shared.table_id.slots in (
      c.requires.table,
      subst (λ (n : ℕ). c.args.at < n) (sym c.args.self.now.wide) c.requires.place,
      at_one _ k slots _ _ c.args.at c.args.seat.now.me (λ n. n) (λ q. recalled (step slots q 0 0 none)) c.args.self.now.key refl c.requires.one (recalls k slots _ _ c.args.at),
    )

pub returns-clause-me : goal.returns-clause-me
returns-clause-me c = (c.load.ensures.2 _ c.requires.one).0 ∙ sym c.requires.one

pub returns-clause-value : goal.returns-clause-value
returns-clause-value c = (c.load.ensures.2 _ c.requires.one).1
