use Rattle.std.proofs.Common.{◌∙◌, refl, sym, ap, subst}
use mathlib.Core.Option.{none}
use Rattle.atomic_table.specs.Table.{step}
use Rattle.memorymap.specs.Addresses.{seen_at}
use Rattle.memorymap.specs.Layouts.{Layout'}
use Rattle.stepprograms.specs.declared.access.Access.TheVariants.{Load, Exchange, FetchXor, FetchOr, FetchAnd}
use Rattle.mutex.specs.Programs.{access_of}
use Rattle.mutex.specs.Standings.{Standing}
use Rattle.ruledwords.specs.Calls.{made}
use Rattle.ruledwords.specs.Rules.{card_of}
use Rattle.ruledwords.proofs.Phases.{cell_access}
use Rattle.ruledwords.proofs.Making.{where_is, within, may_make, may_exchange, after_make}
use Rattle.ruledwords.proofs.pass.Words.make.Goals as goal

pub load-requires-clause-step : goal.load-requires-clause-step
load-requires-clause-step g c =
    let k = c.args.self.now.layout in
    let p : Standing = g.M.Making.program in
    let next = c.next.ensures ∙ cell_access c.args.program.now c.requires.cell ∙ ap access_of (sym c.requires.is) in
    let there = c.seen_at.ensures ∙ ap (λ b. seen_at b c.in-Load.at) c.requires.base in
    (c.requires.table, within k p (card_of c.args.seat.now.me.0) c.requires.card c.requires.ready.0 (Load c.in-Load.at) _ _ c.seen_at.result c.args.self.now.wide c.requires.place next c.in-Load.is there, may_make k p (card_of c.args.seat.now.me.0) c.requires.card c.requires.ready.0 _ _ _ _ 0 0 c.seen_at.result c.args.seat.now.me (Load c.in-Load.at) _ c.args.self.now.key c.requires.layout c.requires.place refl c.requires.one c.requires.going c.requires.step c.requires.ready next c.in-Load.is there)

pub returns-in-Load : goal.returns-in-Load
returns-in-Load g c =
    let k = c.args.self.now.layout in
    let p : Standing = g.M.Making.program in
    let next = c.next.ensures ∙ cell_access c.args.program.now c.requires.cell ∙ ap access_of (sym c.requires.is) in
    let there = c.seen_at.ensures ∙ ap (λ b. seen_at b c.in-Load.at) c.requires.base in
    let here = there ∙ where_is k p (card_of c.args.seat.now.me.0) c.requires.card c.requires.ready.0 c.requires.place.0 (Load c.in-Load.at) _ c.requires.place.1 next c.in-Load.is in
    let done = after_make k c.args.self.now.places.table.shared.table_id.slots c.seen_at.result 0 0 _ _ p c.requires.place.0 _ here c.requires.place.1 c.requires.one (subst (λ (z : Layout'). made z p (step c.args.self.now.places.table.shared.table_id.slots c.seen_at.result 0 0 none) c.args.seat.now.me c.load.result c.load.new.seat.me) c.requires.layout c.load.ensures.2) in
    record { table = c.load.ensures.0; one = done.0; own = done.2; made = done.1 }

pub compare_exchange-requires-clause-step : goal.compare_exchange-requires-clause-step
compare_exchange-requires-clause-step g c =
    let k = c.args.self.now.layout in
    let p : Standing = g.M.Making.program in
    let next = c.next.ensures ∙ cell_access c.args.program.now c.requires.cell ∙ ap access_of (sym c.requires.is) in
    let there = c.seen_at-in-Exchange.ensures ∙ ap (λ b. seen_at b c.in-Exchange.at) c.requires.base in
    (c.requires.table, within k p (card_of c.args.seat.now.me.0) c.requires.card c.requires.ready.0 (Exchange c.in-Exchange.at c.in-Exchange.expected c.in-Exchange.new) _ _ c.seen_at-in-Exchange.result c.args.self.now.wide c.requires.place next c.in-Exchange.is there, may_exchange _ _ _ _ c.seen_at-in-Exchange.result c.in-Exchange.expected c.in-Exchange.new c.args.seat.now.me _ (step c.args.self.now.places.table.shared.table_id.slots c.seen_at-in-Exchange.result c.in-Exchange.expected c.in-Exchange.new none) (may_make k p (card_of c.args.seat.now.me.0) c.requires.card c.requires.ready.0 _ _ _ _ c.in-Exchange.expected c.in-Exchange.new c.seen_at-in-Exchange.result c.args.seat.now.me (Exchange c.in-Exchange.at c.in-Exchange.expected c.in-Exchange.new) _ c.args.self.now.key c.requires.layout c.requires.place refl c.requires.one c.requires.going c.requires.step c.requires.ready next c.in-Exchange.is there))

pub returns-in-Exchange : goal.returns-in-Exchange
returns-in-Exchange g c =
    let k = c.args.self.now.layout in
    let p : Standing = g.M.Making.program in
    let next = c.next.ensures ∙ cell_access c.args.program.now c.requires.cell ∙ ap access_of (sym c.requires.is) in
    let there = c.seen_at-in-Exchange.ensures ∙ ap (λ b. seen_at b c.in-Exchange.at) c.requires.base in
    let here = there ∙ where_is k p (card_of c.args.seat.now.me.0) c.requires.card c.requires.ready.0 c.requires.place.0 (Exchange c.in-Exchange.at c.in-Exchange.expected c.in-Exchange.new) _ c.requires.place.1 next c.in-Exchange.is in
    let done = after_make k c.args.self.now.places.table.shared.table_id.slots c.seen_at-in-Exchange.result c.in-Exchange.expected c.in-Exchange.new _ _ p c.requires.place.0 _ here c.requires.place.1 c.requires.one (subst (λ (z : Layout'). made z p (step c.args.self.now.places.table.shared.table_id.slots c.seen_at-in-Exchange.result c.in-Exchange.expected c.in-Exchange.new none) c.args.seat.now.me c.compare_exchange.result c.compare_exchange.new.seat.me) c.requires.layout c.compare_exchange.ensures.2) in
    record { table = c.compare_exchange.ensures.0; one = done.0; own = done.2; made = done.1 }

pub fetch_xor-requires-clause-step : goal.fetch_xor-requires-clause-step
fetch_xor-requires-clause-step g c =
    let k = c.args.self.now.layout in
    let p : Standing = g.M.Making.program in
    let next = c.next.ensures ∙ cell_access c.args.program.now c.requires.cell ∙ ap access_of (sym c.requires.is) in
    let there = c.seen_at-in-FetchXor.ensures ∙ ap (λ b. seen_at b c.in-FetchXor.at) c.requires.base in
    (c.requires.table, within k p (card_of c.args.seat.now.me.0) c.requires.card c.requires.ready.0 (FetchXor c.in-FetchXor.at c.in-FetchXor.operand) _ _ c.seen_at-in-FetchXor.result c.args.self.now.wide c.requires.place next c.in-FetchXor.is there, may_make k p (card_of c.args.seat.now.me.0) c.requires.card c.requires.ready.0 _ _ _ _ c.in-FetchXor.operand 0 c.seen_at-in-FetchXor.result c.args.seat.now.me (FetchXor c.in-FetchXor.at c.in-FetchXor.operand) _ c.args.self.now.key c.requires.layout c.requires.place refl c.requires.one c.requires.going c.requires.step c.requires.ready next c.in-FetchXor.is there)

pub returns-in-FetchXor : goal.returns-in-FetchXor
returns-in-FetchXor g c =
    let k = c.args.self.now.layout in
    let p : Standing = g.M.Making.program in
    let next = c.next.ensures ∙ cell_access c.args.program.now c.requires.cell ∙ ap access_of (sym c.requires.is) in
    let there = c.seen_at-in-FetchXor.ensures ∙ ap (λ b. seen_at b c.in-FetchXor.at) c.requires.base in
    let here = there ∙ where_is k p (card_of c.args.seat.now.me.0) c.requires.card c.requires.ready.0 c.requires.place.0 (FetchXor c.in-FetchXor.at c.in-FetchXor.operand) _ c.requires.place.1 next c.in-FetchXor.is in
    let done = after_make k c.args.self.now.places.table.shared.table_id.slots c.seen_at-in-FetchXor.result c.in-FetchXor.operand 0 _ _ p c.requires.place.0 _ here c.requires.place.1 c.requires.one (subst (λ (z : Layout'). made z p (step c.args.self.now.places.table.shared.table_id.slots c.seen_at-in-FetchXor.result c.in-FetchXor.operand 0 none) c.args.seat.now.me c.fetch_xor.result c.fetch_xor.new.seat.me) c.requires.layout c.fetch_xor.ensures.2) in
    record { table = c.fetch_xor.ensures.0; one = done.0; own = done.2; made = done.1 }

pub fetch_or-requires-clause-step : goal.fetch_or-requires-clause-step
fetch_or-requires-clause-step g c =
    let k = c.args.self.now.layout in
    let p : Standing = g.M.Making.program in
    let next = c.next.ensures ∙ cell_access c.args.program.now c.requires.cell ∙ ap access_of (sym c.requires.is) in
    let there = c.seen_at-in-FetchOr.ensures ∙ ap (λ b. seen_at b c.in-FetchOr.at) c.requires.base in
    (c.requires.table, within k p (card_of c.args.seat.now.me.0) c.requires.card c.requires.ready.0 (FetchOr c.in-FetchOr.at c.in-FetchOr.operand) _ _ c.seen_at-in-FetchOr.result c.args.self.now.wide c.requires.place next c.in-FetchOr.is there, may_make k p (card_of c.args.seat.now.me.0) c.requires.card c.requires.ready.0 _ _ _ _ c.in-FetchOr.operand 0 c.seen_at-in-FetchOr.result c.args.seat.now.me (FetchOr c.in-FetchOr.at c.in-FetchOr.operand) _ c.args.self.now.key c.requires.layout c.requires.place refl c.requires.one c.requires.going c.requires.step c.requires.ready next c.in-FetchOr.is there)

pub returns-in-FetchOr : goal.returns-in-FetchOr
returns-in-FetchOr g c =
    let k = c.args.self.now.layout in
    let p : Standing = g.M.Making.program in
    let next = c.next.ensures ∙ cell_access c.args.program.now c.requires.cell ∙ ap access_of (sym c.requires.is) in
    let there = c.seen_at-in-FetchOr.ensures ∙ ap (λ b. seen_at b c.in-FetchOr.at) c.requires.base in
    let here = there ∙ where_is k p (card_of c.args.seat.now.me.0) c.requires.card c.requires.ready.0 c.requires.place.0 (FetchOr c.in-FetchOr.at c.in-FetchOr.operand) _ c.requires.place.1 next c.in-FetchOr.is in
    let done = after_make k c.args.self.now.places.table.shared.table_id.slots c.seen_at-in-FetchOr.result c.in-FetchOr.operand 0 _ _ p c.requires.place.0 _ here c.requires.place.1 c.requires.one (subst (λ (z : Layout'). made z p (step c.args.self.now.places.table.shared.table_id.slots c.seen_at-in-FetchOr.result c.in-FetchOr.operand 0 none) c.args.seat.now.me c.fetch_or.result c.fetch_or.new.seat.me) c.requires.layout c.fetch_or.ensures.2) in
    record { table = c.fetch_or.ensures.0; one = done.0; own = done.2; made = done.1 }

pub fetch_and-requires-clause-step : goal.fetch_and-requires-clause-step
fetch_and-requires-clause-step g c =
    let k = c.args.self.now.layout in
    let p : Standing = g.M.Making.program in
    let next = c.next.ensures ∙ cell_access c.args.program.now c.requires.cell ∙ ap access_of (sym c.requires.is) in
    let there = c.seen_at-in-FetchAnd.ensures ∙ ap (λ b. seen_at b c.in-FetchAnd.at) c.requires.base in
    (c.requires.table, within k p (card_of c.args.seat.now.me.0) c.requires.card c.requires.ready.0 (FetchAnd c.in-FetchAnd.at c.in-FetchAnd.operand) _ _ c.seen_at-in-FetchAnd.result c.args.self.now.wide c.requires.place next c.in-FetchAnd.is there, may_make k p (card_of c.args.seat.now.me.0) c.requires.card c.requires.ready.0 _ _ _ _ c.in-FetchAnd.operand 0 c.seen_at-in-FetchAnd.result c.args.seat.now.me (FetchAnd c.in-FetchAnd.at c.in-FetchAnd.operand) _ c.args.self.now.key c.requires.layout c.requires.place refl c.requires.one c.requires.going c.requires.step c.requires.ready next c.in-FetchAnd.is there)

pub returns-in-FetchAnd : goal.returns-in-FetchAnd
returns-in-FetchAnd g c =
    let k = c.args.self.now.layout in
    let p : Standing = g.M.Making.program in
    let next = c.next.ensures ∙ cell_access c.args.program.now c.requires.cell ∙ ap access_of (sym c.requires.is) in
    let there = c.seen_at-in-FetchAnd.ensures ∙ ap (λ b. seen_at b c.in-FetchAnd.at) c.requires.base in
    let here = there ∙ where_is k p (card_of c.args.seat.now.me.0) c.requires.card c.requires.ready.0 c.requires.place.0 (FetchAnd c.in-FetchAnd.at c.in-FetchAnd.operand) _ c.requires.place.1 next c.in-FetchAnd.is in
    let done = after_make k c.args.self.now.places.table.shared.table_id.slots c.seen_at-in-FetchAnd.result c.in-FetchAnd.operand 0 _ _ p c.requires.place.0 _ here c.requires.place.1 c.requires.one (subst (λ (z : Layout'). made z p (step c.args.self.now.places.table.shared.table_id.slots c.seen_at-in-FetchAnd.result c.in-FetchAnd.operand 0 none) c.args.seat.now.me c.fetch_and.result c.fetch_and.new.seat.me) c.requires.layout c.fetch_and.ensures.2) in
    record { table = c.fetch_and.ensures.0; one = done.0; own = done.2; made = done.1 }
