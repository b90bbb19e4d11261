use Rattle.std.proofs.Common.{◌∙◌, refl, sym, ap}
use Rattle.stepprograms.specs.declared.access.Access.TheVariants.{Load, FetchXor, FetchOr, FetchAdd}
use Rattle.memorymap.specs.Layouts.{place_in}
use Rattle.ruledwords.specs.Conditions.{CondStanding}
use Rattle.ruledwords.specs.Rules.{card_of}
use Rattle.ruledwords.proofs.Acting.{after_act, may_act, may_within}
use Rattle.ruledwords.proofs.pass.Words.act.Goals as goal

pub load-requires-clause-step : goal.load-requires-clause-step
load-requires-clause-step g c =
    let k = c.args.self.now.layout in
    let z : CondStanding = g.A.Acting.standing in
    let r = c.requires.call in
    let d = card_of c.args.seat.now.me.0 in
    let there = c.place.ensures ∙ ap (λ t. place_in k t c.in-Load.at) r.is in
    let next = sym c.in-Load.is ∙ c.next.ensures ∙ r.access in (
      r.table,
      may_within k d r.card g.A.Acting.condition z r.mine r.on _ c.place.result (Load c.in-Load.at) c.args.self.now.wide next there,
      may_act k d r.card g.A.Acting.condition z r.mine r.on c.args.self.now.places.table.shared.key.layout g.A.Acting.layout _ _ 0 0 c.place.result c.args.seat.now.me (Load c.in-Load.at) c.args.self.now.key r.layout refl r.one r.going r.step r.ready next there,
    )

pub fetch_xor-requires-clause-step : goal.fetch_xor-requires-clause-step
fetch_xor-requires-clause-step g c =
    let k = c.args.self.now.layout in
    let z : CondStanding = g.A.Acting.standing in
    let r = c.requires.call in
    let d = card_of c.args.seat.now.me.0 in
    let there = c.place-in-FetchXor.ensures ∙ ap (λ t. place_in k t c.in-FetchXor.at) r.is in
    let next = sym c.in-FetchXor.is ∙ c.next.ensures ∙ r.access in (
      r.table,
      may_within k d r.card g.A.Acting.condition z r.mine r.on _ c.place-in-FetchXor.result (FetchXor c.in-FetchXor.at c.in-FetchXor.operand) c.args.self.now.wide next there,
      may_act k d r.card g.A.Acting.condition z r.mine r.on c.args.self.now.places.table.shared.key.layout g.A.Acting.layout _ _ c.in-FetchXor.operand 0 c.place-in-FetchXor.result c.args.seat.now.me (FetchXor c.in-FetchXor.at c.in-FetchXor.operand) c.args.self.now.key r.layout refl r.one r.going r.step r.ready next there,
    )

pub fetch_or-requires-clause-step : goal.fetch_or-requires-clause-step
fetch_or-requires-clause-step g c =
    let k = c.args.self.now.layout in
    let z : CondStanding = g.A.Acting.standing in
    let r = c.requires.call in
    let d = card_of c.args.seat.now.me.0 in
    let there = c.place-in-FetchOr.ensures ∙ ap (λ t. place_in k t c.in-FetchOr.at) r.is in
    let next = sym c.in-FetchOr.is ∙ c.next.ensures ∙ r.access in (
      r.table,
      may_within k d r.card g.A.Acting.condition z r.mine r.on _ c.place-in-FetchOr.result (FetchOr c.in-FetchOr.at c.in-FetchOr.operand) c.args.self.now.wide next there,
      may_act k d r.card g.A.Acting.condition z r.mine r.on c.args.self.now.places.table.shared.key.layout g.A.Acting.layout _ _ c.in-FetchOr.operand 0 c.place-in-FetchOr.result c.args.seat.now.me (FetchOr c.in-FetchOr.at c.in-FetchOr.operand) c.args.self.now.key r.layout refl r.one r.going r.step r.ready next there,
    )

pub fetch_add-requires-clause-step : goal.fetch_add-requires-clause-step
fetch_add-requires-clause-step g c =
    let k = c.args.self.now.layout in
    let z : CondStanding = g.A.Acting.standing in
    let r = c.requires.call in
    let d = card_of c.args.seat.now.me.0 in
    let there = c.place-in-FetchAdd.ensures ∙ ap (λ t. place_in k t c.in-FetchAdd.at) r.is in
    let next = sym c.in-FetchAdd.is ∙ c.next.ensures ∙ r.access in (
      r.table,
      may_within k d r.card g.A.Acting.condition z r.mine r.on _ c.place-in-FetchAdd.result (FetchAdd c.in-FetchAdd.at c.in-FetchAdd.operand) c.args.self.now.wide next there,
      may_act k d r.card g.A.Acting.condition z r.mine r.on c.args.self.now.places.table.shared.key.layout g.A.Acting.layout _ _ c.in-FetchAdd.operand 0 c.place-in-FetchAdd.result c.args.seat.now.me (FetchAdd c.in-FetchAdd.at c.in-FetchAdd.operand) c.args.self.now.key r.layout refl r.one r.going r.step r.ready next there,
    )

pub returns-in-Load : goal.returns-in-Load
returns-in-Load g c =
    let done = after_act c.args.self.now.layout g.A.Acting.layout g.A.Acting.condition c.args.self.now.places.table.shared.table_id.slots c.place.result 0 0 c.load.result g.A.Acting.standing c.args.seat.now.me c.load.new.seat.me c.requires.call.layout c.requires.call.one c.load.ensures.2 in
    (c.load.ensures.0, done.0, done.1)

pub returns-in-FetchXor : goal.returns-in-FetchXor
returns-in-FetchXor g c =
    let done = after_act c.args.self.now.layout g.A.Acting.layout g.A.Acting.condition c.args.self.now.places.table.shared.table_id.slots c.place-in-FetchXor.result c.in-FetchXor.operand 0 c.fetch_xor.result g.A.Acting.standing c.args.seat.now.me c.fetch_xor.new.seat.me c.requires.call.layout c.requires.call.one c.fetch_xor.ensures.2 in
    (c.fetch_xor.ensures.0, done.0, done.1)

pub returns-in-FetchOr : goal.returns-in-FetchOr
returns-in-FetchOr g c =
    let done = after_act c.args.self.now.layout g.A.Acting.layout g.A.Acting.condition c.args.self.now.places.table.shared.table_id.slots c.place-in-FetchOr.result c.in-FetchOr.operand 0 c.fetch_or.result g.A.Acting.standing c.args.seat.now.me c.fetch_or.new.seat.me c.requires.call.layout c.requires.call.one c.fetch_or.ensures.2 in
    (c.fetch_or.ensures.0, done.0, done.1)

pub returns-in-FetchAdd : goal.returns-in-FetchAdd
returns-in-FetchAdd g c =
    let done = after_act c.args.self.now.layout g.A.Acting.layout g.A.Acting.condition c.args.self.now.places.table.shared.table_id.slots c.place-in-FetchAdd.result c.in-FetchAdd.operand 0 c.fetch_add.result g.A.Acting.standing c.args.seat.now.me c.fetch_add.new.seat.me c.requires.call.layout c.requires.call.one c.fetch_add.ensures.2 in
    (c.fetch_add.ensures.0, done.0, done.1)
