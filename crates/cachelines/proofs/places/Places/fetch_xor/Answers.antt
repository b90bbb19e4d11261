use Rattle.std.proofs.Common.{ℕ, ◌<◌, sym, subst}
use mathlib.Core.Option.{none}
use Rattle.std.specs.Prelude.{bit_xor}
use Rattle.cachelines.proofs.Spread.{within, may_step, has_stepped}
use Rattle.cachelines.proofs.places.Places.fetch_xor.Goals as goal

pub fetch_xor-requires : goal.fetch_xor-requires
fetch_xor-requires g c =
    let n = c.args.self.now.count in
    let slots = c.args.self.now.table.shared.table_id.slots in (
      c.requires.step.0,
      subst (λ (z : ℕ × ℕ). z.0 < z.1) (λ i. (sym c.slot.ensures i, sym c.args.self.now.wide i)) (within n c.args.place c.requires.step.1),
      may_step _ n slots c.args.seat.now.id c.args.place c.slot.result c.args.k 0 none _ c.args.seat.now.me (λ n. bit_xor n c.args.k) (λ st. g.M.Play.then st c.args.seat.now.me) c.requires.all c.requires.step.1 c.slot.ensures c.requires.step.2,
    )

pub returns : goal.returns
returns g c =
    let slots = c.args.self.now.table.shared.table_id.slots in
    (c.fetch_xor.ensures.0, c.fetch_xor.ensures.1, has_stepped slots c.args.place c.slot.result c.args.k 0 none (λ st. g.M.Play.then st c.args.seat.now.me c.fetch_xor.result c.fetch_xor.new.seat.me) c.slot.ensures c.fetch_xor.ensures.2)
