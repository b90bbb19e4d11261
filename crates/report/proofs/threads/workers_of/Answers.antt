use Rattle.std.proofs.Common.{◌≡◌, ◌<◌, ◌∷◌, [], ◌++◌, ◌∙◌, length, refl, ap, sym, append_assoc, length-append, arith}
use Rattle.std.proofs.lemmas.Option.{slice_get-get_or}
use Rattle.std.specs.Prelude.{slice_get}
use Rattle.std.specs.Vec.Iter.{into_iter_items}
use Rattle.report.proofs.Phases.{first_more}
use Rattle.report.proofs.threads.workers_of.Goals as goal

pub loop-pass-preserved : goal.loop-pass-preserved
loop-pass-preserved c =
    let so_far = c.loop-pass.invariant in
    let done = so_far.2.0 in
    let pass = c.in-Some.pass in
    let ok = c.loop-pass.workers.ok in
    let len = c.len.ensures in
    let first = c.in-Some.ensures.steps in
    let count : c.len.result ≡ length c.loop-pass.workers.items = omega arith in
    let there : c.len.result < length c.args.dies.now =
    let many = so_far.2.2.as_many in
    let asked = c.requires in
    omega (arith, ap length so_far.2.1, length-append done (into_iter_items c.loop-pass.pass-iterator), ap length first.0, many, asked, count)
    in (
      tt,
      tt,
      (
        done ++ pass ∷ [],
        append_assoc done (pass ∷ []) (into_iter_items c.next.new.self) ∙ ap (λ rest. done ++ rest) (sym first.0) ∙ so_far.2.1,
        rw c.in_ok-push.ensures.items (first_more done c.args.dies.now c.loop-pass.workers.items pass _ so_far.2.2 refl (ap (slice_get c.args.dies.now) (sym count) ∙ slice_get-get_or c.args.dies.now c.len.result _ there)),
      ),
    )
