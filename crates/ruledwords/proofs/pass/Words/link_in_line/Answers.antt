use Rattle.std.proofs.Common.{refl, subst, sym}
use Rattle.robustlist.specs.declared.link.LinkRow.TheVariants.{LoadFirst, StoreNext, StorePrevious, StoreBehind, StoreFirst}
use Rattle.ruledwords.specs.InLine.{linking}
use Rattle.ruledwords.specs.Turns.{IsCallOf}
use Rattle.ruledwords.proofs.InLine.{behind, leads_on, stopped, to_behind, to_first}
use Rattle.ruledwords.proofs.Stepping.{◌⨾◌, went_nowhere}
use Rattle.ruledwords.proofs.pass.Words.link_in_line.Goals as goal

pub returns-in_err-first : goal.returns-in_err-first
returns-in_err-first g c =
    let l = c.args.line.now in
    stopped l (linking l LoadFirst) _ _ _ (went_nowhere _ _ c.requires.call) c.linking.ensures c.in_err-first.ensures c.from_residual.ensures.1

pub returns-in_err-find : goal.returns-in_err-find
returns-in_err-find g c =
    let l = c.args.line.now in
    let f = c.in_ok-first.first in
    let one = leads_on l (linking l LoadFirst) (linking l (StoreNext f)) c.linking.ensures refl tt c.in_ok-first.ensures in
    stopped l (linking l (StoreNext f)) _ _ _ one c.linking-2.ensures c.in_err-find.ensures c.from_residual-in_err-find.ensures.1

pub returns-in_err-find-2 : goal.returns-in_err-find-2
returns-in_err-find-2 g c =
    let l = c.args.line.now in
    let f = c.in_ok-first.first in
    let one = leads_on l (linking l LoadFirst) (linking l (StoreNext f)) c.linking.ensures refl tt c.in_ok-first.ensures in
    let two = one ⨾ leads_on l (linking l (StoreNext f)) (linking l (StorePrevious f)) c.linking-2.ensures refl tt c.in_ok-find.ensures in
    stopped l (linking l (StorePrevious f)) _ _ _ two c.linking-3.ensures c.in_err-find-2.ensures c.from_residual-in_err-find-2.ensures.1

pub end_in_line-requires-clause-call : goal.end_in_line-requires-clause-call
end_in_line-requires-clause-call g c =
    let l = c.args.line.now in
    let f = c.in_ok-first.first in
    let three = leads_on l (linking l (StorePrevious f)) (linking l StoreFirst) c.linking-3.ensures (to_first l f c.in_ok-find-2.field-0 c.if-first-line.true) tt c.in_ok-find-2.ensures in
    three.came.0

pub returns-then-first-line : goal.returns-then-first-line
returns-then-first-line g c =
    let l = c.args.line.now in
    let f = c.in_ok-first.first in
    let one = leads_on l (linking l LoadFirst) (linking l (StoreNext f)) c.linking.ensures refl tt c.in_ok-first.ensures in
    let two = one ⨾ leads_on l (linking l (StoreNext f)) (linking l (StorePrevious f)) c.linking-2.ensures refl tt c.in_ok-find.ensures in
    let three = two ⨾ leads_on l (linking l (StorePrevious f)) (linking l StoreFirst) c.linking-3.ensures (to_first l f c.in_ok-find-2.field-0 c.if-first-line.true) tt c.in_ok-find-2.ensures in
    behind l _ _ three c.end_in_line.ensures

pub find-requires-4-clause-call : goal.find-requires-4-clause-call
find-requires-4-clause-call g c =
    let l = c.args.line.now in
    let f = c.in_ok-first.first in
    let three = leads_on l (linking l (StorePrevious f)) (linking l (StoreBehind f)) c.linking-3.ensures (to_behind l f c.in_ok-find-2.field-0 c.if-first-line.false) tt c.in_ok-find-2.ensures in
    subst (IsCallOf c.args.self.now c.find-3.new.pass) (sym c.linking-4.ensures) three.came.0

pub returns-in_err-find-3 : goal.returns-in_err-find-3
returns-in_err-find-3 g c =
    let l = c.args.line.now in
    let f = c.in_ok-first.first in
    let one = leads_on l (linking l LoadFirst) (linking l (StoreNext f)) c.linking.ensures refl tt c.in_ok-first.ensures in
    let two = one ⨾ leads_on l (linking l (StoreNext f)) (linking l (StorePrevious f)) c.linking-2.ensures refl tt c.in_ok-find.ensures in
    let three = two ⨾ leads_on l (linking l (StorePrevious f)) (linking l (StoreBehind f)) c.linking-3.ensures (to_behind l f c.in_ok-find-2.field-0 c.if-first-line.false) tt c.in_ok-find-2.ensures in
    stopped l (linking l (StoreBehind f)) _ _ _ three c.linking-4.ensures c.in_err-find-3.ensures c.from_residual-in_err-find-3.ensures.1

pub returns : goal.returns
returns g c =
    let l = c.args.line.now in
    let f = c.in_ok-first.first in
    let one = leads_on l (linking l LoadFirst) (linking l (StoreNext f)) c.linking.ensures refl tt c.in_ok-first.ensures in
    let two = one ⨾ leads_on l (linking l (StoreNext f)) (linking l (StorePrevious f)) c.linking-2.ensures refl tt c.in_ok-find.ensures in
    let three = two ⨾ leads_on l (linking l (StorePrevious f)) (linking l (StoreBehind f)) c.linking-3.ensures (to_behind l f c.in_ok-find-2.field-0 c.if-first-line.false) tt c.in_ok-find-2.ensures in
    let four = three ⨾ leads_on l (linking l (StoreBehind f)) (linking l StoreFirst) c.linking-4.ensures refl tt c.in_ok-find-3.ensures in
    behind l _ _ four c.end_in_line-2.ensures
