use Rattle.std.proofs.Common.{◌+◌, sym, ap, ◌∙◌}
use Rattle.verdict.specs.Judges.{one}
use Rattle.verdict.proofs.Owners.{read_object, read_number, step_moves, step_counts}
use Rattle.certificates.proofs.state.decide.Goals as goal

pub returns-in-Some-recount-clause-moved : goal.returns-in-Some-recount-clause-moved
returns-in-Some-recount-clause-moved c =
    let d = c.args.decision.now in
    let xs = c.args.objects.now.items in
    let old = read_object xs c.from-at.result d.mutex c.index.result.now c.from-at.ensures c.requires.mutex c.index.ensures in
    step_moves xs d c.from-at.result c.index-owned.result.now c.index.result.now c.in-Some.new c.from-at.ensures c.requires.mutex old c.in-Some.ensures

pub returns-in-Some-recount-clause-counted : goal.returns-in-Some-recount-clause-counted
returns-in-Some-recount-clause-counted c =
    let d = c.args.decision.now in
    let xs = c.args.objects.now.items in
    let hs = c.args.held.now.items in
    let old = read_object xs c.from-at.result d.mutex c.index.result.now c.from-at.ensures c.requires.mutex c.index.ensures in
    let by = c.from-by.ensures ∙ c.get.ensures.value in
    let owned = read_number hs c.from-by.result d.thread c.index-owned.result.now by c.requires.thread c.index-owned.ensures in
    step_counts hs xs d c.from-at.result c.from-by.result c.index-owned.result.now c.in-Some-recount.left c.index.result.now c.in-Some.new c.from-at.ensures by c.requires.mutex c.requires.thread old owned c.requires.counted c.in-Some.ensures
    (ap (λ b. c.in-Some-recount.left + one b) (sym c.is_owner.ensures) ∙ c.in-Some-recount.ensures ∙ ap (λ b. c.index-owned.result.now + one b) c.is_owner-in-Some.ensures)
