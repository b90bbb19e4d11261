use Rattle.std.proofs.Common.{ℕ, ◌<◌, sym, subst}
use mathlib.Core.Option.{none}
use Rattle.cachelines.proofs.Spread.{within, may_step, has_stepped}
use Rattle.cachelines.proofs.places.Places.store.Goals as goal

pub store-requires : goal.store-requires
store-requires g c =
    let n = c.args.self.now.count in
    let slots = c.args.self.now.table.shared.table_id.slots in (
      c.requires.step.0,
      subst (λ (z : ℕ × ℕ). z.0 < z.1) (λ i. (sym c.slot.ensures i, sym c.args.self.now.wide i)) (within n c.args.place c.requires.step.1),
      may_step _ n slots c.args.seat.now.id c.args.place c.slot.result c.args.new 0 none _ c.args.seat.now.me (λ _. c.args.new) (λ st. λ _. g.M.Play.then st c.args.seat.now.me c.args.new) c.requires.all c.requires.step.1 c.slot.ensures c.requires.step.2,
    )

pub returns : goal.returns
returns g c =
    let slots = c.args.self.now.table.shared.table_id.slots in
    (c.store.ensures.0, c.store.ensures.1, has_stepped slots c.args.place c.slot.result c.args.new 0 none (λ st. g.M.Play.then st c.args.seat.now.me c.args.new c.store.new.seat.me) c.slot.ensures c.store.ensures.2)
