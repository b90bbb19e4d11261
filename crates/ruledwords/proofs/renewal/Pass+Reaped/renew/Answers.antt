use Rattle.std.proofs.Common.{rules, ◌≡◌, sym, ◌∙◌, subst}
use Rattle.ruledwords.specs.declared.pass.Card.{Card}
use Rattle.ruledwords.specs.Rules.{card_of}
use Rattle.ruledwords.specs.Lists.{IsAlive}
use Rattle.ruledwords.specs.Passes.{IsCardOf, card, layout_of}
use Rattle.ruledwords.specs.Renewals.{renewed}
use Rattle.ruledwords.proofs.Listing.{alive_anew, card_anew}
use Rattle.ruledwords.proofs.renewal.Pass+Reaped.renew.Goals as goal

pub returns-clause-live : goal.returns-clause-live
returns-clause-live c =
    let k = layout_of c.args.words.now in
    let was : Card = card c.args.self in
    let of = c.requires.pass in
    let is : card_of c.store-2.new.seat.me.0 ≡ renewed k was = search rules in
    ((c.store-2.ensures.table ∙ c.store.ensures.table ∙ of.0.0, subst (IsCardOf k) (sym is) (card_anew k was of.0.1)), subst (IsAlive k) (sym is) (alive_anew k was of.0.1 of.1 of.2))
