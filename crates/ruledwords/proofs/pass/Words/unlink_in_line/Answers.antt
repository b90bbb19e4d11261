use Rattle.std.proofs.Common.{refl, subst, sym}
use Rattle.robustlist.specs.declared.unlink.UnlinkRow.TheVariants.{LoadNext, LoadPrevious, StoreNext, StorePrevious}
use Rattle.ruledwords.specs.InLine.{releasing, unlinking}
use Rattle.ruledwords.specs.Turns.{IsCallOf}
use Rattle.ruledwords.proofs.InLine.{leads_on, stopped_within, to_previous, to_release}
use Rattle.ruledwords.proofs.Stepping.{◌⨾◌, went_nowhere}
use Rattle.ruledwords.proofs.pass.Words.unlink_in_line.Goals as goal

pub returns-in_err-next : goal.returns-in_err-next
returns-in_err-next g c =
    let l = c.args.line.now in
    stopped_within l (unlinking l LoadNext) _ _ _ _ (went_nowhere _ _ c.requires.call) c.unlinking-loading.ensures c.in_err-next.ensures c.from_residual.ensures.1

pub returns-in_err-previous : goal.returns-in_err-previous
returns-in_err-previous g c =
    let l = c.args.line.now in
    let n = c.in_ok-next.next in
    let one = leads_on l (unlinking l LoadNext) (unlinking l (LoadPrevious n)) c.unlinking-loading.ensures refl tt c.in_ok-next.ensures in
    stopped_within l (unlinking l (LoadPrevious n)) _ _ _ _ one c.unlinking-going_on.ensures c.in_err-previous.ensures c.from_residual-in_err-previous.ensures.1

pub returns-in_err-find : goal.returns-in_err-find
returns-in_err-find g c =
    let l = c.args.line.now in
    let n = c.in_ok-next.next in
    let p = c.in_ok-previous.previous in
    let one = leads_on l (unlinking l LoadNext) (unlinking l (LoadPrevious n)) c.unlinking-loading.ensures refl tt c.in_ok-next.ensures in
    let two = one ⨾ leads_on l (unlinking l (LoadPrevious n)) (unlinking l (StoreNext n p)) c.unlinking-going_on.ensures refl tt c.in_ok-previous.ensures in
    stopped_within l (unlinking l (StoreNext n p)) _ _ _ _ two c.unlinking-storing.ensures c.in_err-find.ensures c.from_residual-in_err-find.ensures.1

pub returns-then-next-line : goal.returns-then-next-line
returns-then-next-line g c =
    let l = c.args.line.now in
    let n = c.in_ok-next.next in
    let p = c.in_ok-previous.previous in
    let one = leads_on l (unlinking l LoadNext) (unlinking l (LoadPrevious n)) c.unlinking-loading.ensures refl tt c.in_ok-next.ensures in
    let two = one ⨾ leads_on l (unlinking l (LoadPrevious n)) (unlinking l (StoreNext n p)) c.unlinking-going_on.ensures refl tt c.in_ok-previous.ensures in
    let three = two ⨾ leads_on l (unlinking l (StoreNext n p)) releasing c.unlinking-storing.ensures (to_release l n p c.in_ok-find.field-0 c.if-next-line.true) tt c.in_ok-find.ensures in
    record { steps = three.came; fate = three.fate }

pub find-requires-4-clause-call : goal.find-requires-4-clause-call
find-requires-4-clause-call g c =
    let l = c.args.line.now in
    let n = c.in_ok-next.next in
    let p = c.in_ok-previous.previous in
    let three = leads_on l (unlinking l (StoreNext n p)) (unlinking l (StorePrevious n p)) c.unlinking-storing.ensures (to_previous l n p c.in_ok-find.field-0 c.if-next-line.false) tt c.in_ok-find.ensures in
    subst (IsCallOf c.args.self.now c.find-3.new.pass) (sym c.unlinking-behind.ensures) three.came.0

pub returns-in_err-find-2 : goal.returns-in_err-find-2
returns-in_err-find-2 g c =
    let l = c.args.line.now in
    let n = c.in_ok-next.next in
    let p = c.in_ok-previous.previous in
    let one = leads_on l (unlinking l LoadNext) (unlinking l (LoadPrevious n)) c.unlinking-loading.ensures refl tt c.in_ok-next.ensures in
    let two = one ⨾ leads_on l (unlinking l (LoadPrevious n)) (unlinking l (StoreNext n p)) c.unlinking-going_on.ensures refl tt c.in_ok-previous.ensures in
    let three = two ⨾ leads_on l (unlinking l (StoreNext n p)) (unlinking l (StorePrevious n p)) c.unlinking-storing.ensures (to_previous l n p c.in_ok-find.field-0 c.if-next-line.false) tt c.in_ok-find.ensures in
    stopped_within l (unlinking l (StorePrevious n p)) _ _ _ _ three c.unlinking-behind.ensures c.in_err-find-2.ensures c.from_residual-in_err-find-2.ensures.1

pub returns : goal.returns
returns g c =
    let l = c.args.line.now in
    let n = c.in_ok-next.next in
    let p = c.in_ok-previous.previous in
    let one = leads_on l (unlinking l LoadNext) (unlinking l (LoadPrevious n)) c.unlinking-loading.ensures refl tt c.in_ok-next.ensures in
    let two = one ⨾ leads_on l (unlinking l (LoadPrevious n)) (unlinking l (StoreNext n p)) c.unlinking-going_on.ensures refl tt c.in_ok-previous.ensures in
    let three = two ⨾ leads_on l (unlinking l (StoreNext n p)) (unlinking l (StorePrevious n p)) c.unlinking-storing.ensures (to_previous l n p c.in_ok-find.field-0 c.if-next-line.false) tt c.in_ok-find.ensures in
    let four = three ⨾ leads_on l (unlinking l (StorePrevious n p)) releasing c.unlinking-behind.ensures refl tt c.in_ok-find-2.ensures in
    record { steps = four.came; fate = four.fate }
