use Rattle.std.proofs.Common.{◌+◌, length, sym, ap, subst, ◌∙◌, arith}
use Rattle.posixmutex.specs.declared.object.Object.{Object}
use Rattle.posixmutex.specs.Histories.{is_thread, held_by}
use Rattle.verdict.specs.Misfits.{RefusesStep}
use Rattle.verdict.specs.Judges.{object_at, one}
use Rattle.verdict.proofs.Owners.{held_most, held_some, read_object, read_number, step_moves, step_counts}
use Rattle.verdict.proofs.judge.decide.Goals as goal

pub recount-requires-clause-some : goal.recount-requires-clause-some
recount-requires-clause-some c = λ owns.
    let d = c.args.decision.now in
    let xs = c.args.objects.now.items in
    let old = read_object xs c.from-at.result d.mutex c.index.result.now c.from-at.ensures c.requires.mutex c.index.ensures in
    let owned = read_number c.args.held.now.items c.from-by.result d.thread c.index-owned.result.now (c.from-by.ensures ∙ c.get.ensures.value) c.requires.thread c.index-owned.ensures in
    let here = ap (λ (o : Object). is_thread d.thread o.owner) (sym old) ∙ sym c.is_owner.ensures ∙ owns in
    omega (arith, owned, c.requires.counted d.thread c.requires.thread, held_some d.thread (object_at xs) (length xs) d.mutex c.requires.mutex here)

pub recount-requires-clause-few : goal.recount-requires-clause-few
recount-requires-clause-few c =
    let d = c.args.decision.now in
    let xs = c.args.objects.now.items in
    let owned = read_number c.args.held.now.items c.from-by.result d.thread c.index-owned.result.now (c.from-by.ensures ∙ c.get.ensures.value) c.requires.thread c.index-owned.ensures in
    omega (arith, owned, c.requires.few, c.requires.counted d.thread c.requires.thread, held_most d.thread (object_at xs) (length xs))

pub returns-in-None-clause-refused : goal.returns-in-None-clause-refused
returns-in-None-clause-refused c =
    let d = c.args.decision.now in
    let xs = c.args.objects.now.items in
    let old = read_object xs c.from-at.result d.mutex c.index.result.now c.from-at.ensures c.requires.mutex c.index.ensures in
    let owned = read_number c.args.held.now.items c.from-by.result d.thread c.index-owned.result.now (c.from-by.ensures ∙ c.get.ensures.value) c.requires.thread c.index-owned.ensures in
    subst (λ o. RefusesStep c.refusal.result (held_by d.thread (object_at xs) (length xs)) o d) old (subst (λ k. RefusesStep c.refusal.result k c.index.result.now d) (owned ∙ c.requires.counted d.thread c.requires.thread) c.refusal.ensures)

pub returns-in-Some-clause-moved : goal.returns-in-Some-clause-moved
returns-in-Some-clause-moved c =
    let d = c.args.decision.now in
    let xs = c.args.objects.now.items in
    let old = read_object xs c.from-at.result d.mutex c.index.result.now c.from-at.ensures c.requires.mutex c.index.ensures in
    step_moves xs d c.from-at.result c.index-owned.result.now c.index.result.now c.in-Some.new c.from-at.ensures c.requires.mutex old c.in-Some.ensures

pub returns-in-Some-clause-counted : goal.returns-in-Some-clause-counted
returns-in-Some-clause-counted c =
    let d = c.args.decision.now in
    let xs = c.args.objects.now.items in
    let hs = c.args.held.now.items in
    let old = read_object xs c.from-at.result d.mutex c.index.result.now c.from-at.ensures c.requires.mutex c.index.ensures in
    let by = c.from-by.ensures ∙ c.get.ensures.value in
    let owned = read_number hs c.from-by.result d.thread c.index-owned.result.now by c.requires.thread c.index-owned.ensures in
    step_counts hs xs d c.from-at.result c.from-by.result c.index-owned.result.now c.recount.result c.index.result.now c.in-Some.new c.from-at.ensures by c.requires.mutex c.requires.thread old owned c.requires.counted c.in-Some.ensures
    (ap (λ b. c.recount.result + one b) (sym c.is_owner.ensures) ∙ c.recount.ensures ∙ ap (λ b. c.index-owned.result.now + one b) c.is_owner-in-Some.ensures)
