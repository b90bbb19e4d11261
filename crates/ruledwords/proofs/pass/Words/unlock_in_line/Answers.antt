use Rattle.std.proofs.Common.{refl, ap, sym, ◌∙◌}
use Rattle.lockword.specs.Cells.{Fields}
use Rattle.lockword.specs.declared.reply.Reply.TheVariants.{OK}
use Rattle.ruledwords.specs.declared.uncrossed.Crossed.TheVariants.{Releasing, Unlocking}
use Rattle.mutex.specs.declared.phase.Phase.TheVariants.{Clearing}
use Rattle.robustlist.specs.declared.unlink.UnlinkRow.TheVariants.{LoadNext}
use Rattle.ruledwords.specs.InLine.{announcing_release, loading_unlock, releasing, unlinking}
use Rattle.ruledwords.proofs.InLine.{came_on, ended_so, leads_across, leads_on, leads_out, stopped, to_announce, to_clear}
use Rattle.ruledwords.proofs.Stepping.{◌⨾◌, went_nowhere}
use Rattle.ruledwords.proofs.pass.Words.unlock_in_line.Goals as goal

pub returns-in_err-word : goal.returns-in_err-word
returns-in_err-word g c =
    let l = c.args.line.now in
    stopped l loading_unlock _ _ _ (went_nowhere _ _ c.requires.call) c.at-loading.ensures c.in_err-word.ensures c.from_residual.ensures.1

pub returns-then-not-is_held : goal.returns-then-not-is_held
returns-then-not-is_held g c =
    let l = c.args.line.now in
    leads_across l (Unlocking c.in_ok-word.word) (went_nowhere _ _ c.requires.call) c.at-loading.ensures (tt, tt) refl c.in_ok-word.ensures

pub returns-in_err-find : goal.returns-in_err-find
returns-in_err-find g c =
    let l = c.args.line.now in
    let held = sym c.is_held.ensures ∙ c.if-not-is_held.false in
    let one = leads_on l loading_unlock announcing_release c.at-loading.ensures (to_announce l c.in_ok-word.word c.new-seen.result c.new-seen.ensures held) tt c.in_ok-word.ensures in
    stopped l announcing_release _ _ _ one c.at-announcing.ensures c.in_err-find.ensures c.from_residual-in_err-find.ensures.1

pub returns-in_err-unlink_in_line : goal.returns-in_err-unlink_in_line
returns-in_err-unlink_in_line g c =
    let l = c.args.line.now in
    let held = sym c.is_held.ensures ∙ c.if-not-is_held.false in
    let one = leads_on l loading_unlock announcing_release c.at-loading.ensures (to_announce l c.in_ok-word.word c.new-seen.result c.new-seen.ensures held) tt c.in_ok-word.ensures in
    let two = one ⨾ leads_on l announcing_release (unlinking l LoadNext) c.at-announcing.ensures refl tt c.in_ok-find.ensures in
    ended_so l _ _ _ two c.in_err-unlink_in_line.ensures c.from_residual-in_err-unlink_in_line.ensures.1

pub returns-in_err-found : goal.returns-in_err-found
returns-in_err-found g c =
    let l = c.args.line.now in
    let held = sym c.is_held.ensures ∙ c.if-not-is_held.false in
    let one = leads_on l loading_unlock announcing_release c.at-loading.ensures (to_announce l c.in_ok-word.word c.new-seen.result c.new-seen.ensures held) tt c.in_ok-word.ensures in
    let two = one ⨾ leads_on l announcing_release (unlinking l LoadNext) c.at-announcing.ensures refl tt c.in_ok-find.ensures in
    let three = two ⨾ came_on c.in_ok-unlink_in_line.ensures in
    stopped l releasing _ _ _ three c.at-releasing.ensures c.in_err-found.ensures c.from_residual-in_err-found.ensures.1

pub returns-then-waiters : goal.returns-then-waiters
returns-then-waiters g c =
    let l = c.args.line.now in
    let held = sym c.is_held.ensures ∙ c.if-not-is_held.false in
    let one = leads_on l loading_unlock announcing_release c.at-loading.ensures (to_announce l c.in_ok-word.word c.new-seen.result c.new-seen.ensures held) tt c.in_ok-word.ensures in
    let two = one ⨾ leads_on l announcing_release (unlinking l LoadNext) c.at-announcing.ensures refl tt c.in_ok-find.ensures in
    let three = two ⨾ came_on c.in_ok-unlink_in_line.ensures in
    leads_across l (Releasing c.in_ok-found.found) three c.at-releasing.ensures (tt, tt) refl c.in_ok-found.ensures

pub returns-in_err-find-2 : goal.returns-in_err-find-2
returns-in_err-find-2 g c =
    let l = c.args.line.now in
    let held = sym c.is_held.ensures ∙ c.if-not-is_held.false in
    let none = ap (λ (z : Fields). z.waiters) (sym c.new.ensures) ∙ sym c.waiters.ensures ∙ c.if-waiters.false in
    let one = leads_on l loading_unlock announcing_release c.at-loading.ensures (to_announce l c.in_ok-word.word c.new-seen.result c.new-seen.ensures held) tt c.in_ok-word.ensures in
    let two = one ⨾ leads_on l announcing_release (unlinking l LoadNext) c.at-announcing.ensures refl tt c.in_ok-find.ensures in
    let three = two ⨾ came_on c.in_ok-unlink_in_line.ensures in
    let four = three ⨾ leads_on l releasing (Clearing OK) c.at-releasing.ensures (to_clear l c.in_ok-found.found c.requires.operation none) tt c.in_ok-found.ensures in
    stopped l (Clearing OK) _ _ _ four c.at-clearing.ensures c.in_err-find-2.ensures c.from_residual-in_err-find-2.ensures.1

pub returns : goal.returns
returns g c =
    let l = c.args.line.now in
    let held = sym c.is_held.ensures ∙ c.if-not-is_held.false in
    let none = ap (λ (z : Fields). z.waiters) (sym c.new.ensures) ∙ sym c.waiters.ensures ∙ c.if-waiters.false in
    let one = leads_on l loading_unlock announcing_release c.at-loading.ensures (to_announce l c.in_ok-word.word c.new-seen.result c.new-seen.ensures held) tt c.in_ok-word.ensures in
    let two = one ⨾ leads_on l announcing_release (unlinking l LoadNext) c.at-announcing.ensures refl tt c.in_ok-find.ensures in
    let three = two ⨾ came_on c.in_ok-unlink_in_line.ensures in
    let four = three ⨾ leads_on l releasing (Clearing OK) c.at-releasing.ensures (to_clear l c.in_ok-found.found c.requires.operation none) tt c.in_ok-found.ensures in
    leads_out l (Clearing OK) OK four c.at-clearing.ensures refl refl c.in_ok-find-2.ensures
