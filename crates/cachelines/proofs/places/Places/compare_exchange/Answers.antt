use Rattle.std.proofs.Common.{ℕ, ◌<◌, sym, subst, ◌==◌}
use mathlib.Core.Option.{none}
use prog.Atomic.{either}
use Rattle.cachelines.proofs.Spread.{within, may_step, has_stepped}
use Rattle.cachelines.proofs.places.Places.compare_exchange.Goals as goal

pub compare_exchange-requires : goal.compare_exchange-requires
compare_exchange-requires g c =
    let n = c.args.self.now.count in
    let slots = c.args.self.now.table.shared.table_id.slots in (
      c.requires.step.0,
      subst (λ (z : ℕ × ℕ). z.0 < z.1) (λ i. (sym c.slot.ensures i, sym c.args.self.now.wide i)) (within n c.args.place c.requires.step.1),
      may_step _ n slots c.args.seat.now.id c.args.place c.slot.result c.args.old c.args.new none _ c.args.seat.now.me (λ n. either (n == c.args.old) c.args.new n) (λ st. g.M.Play.then st c.args.seat.now.me) c.requires.all c.requires.step.1 c.slot.ensures c.requires.step.2,
    )

pub returns : goal.returns
returns g c =
    let slots = c.args.self.now.table.shared.table_id.slots in
    (c.compare_exchange.ensures.0, c.compare_exchange.ensures.1, has_stepped slots c.args.place c.slot.result c.args.old c.args.new none (λ st. g.M.Play.then st c.args.seat.now.me c.compare_exchange.result c.compare_exchange.new.seat.me) c.slot.ensures c.compare_exchange.ensures.2)
