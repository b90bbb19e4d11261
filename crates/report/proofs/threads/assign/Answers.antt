use Rattle.std.proofs.Common.{◌≡◌, ◌+◌, ◌∷◌, [], ◌++◌, ◌∙◌, length, refl, ap, sym, append_assoc, arith}
use Rattle.std.specs.Vec.Iter.{into_iter_items}
use Rattle.report.specs.Threads.{calls_in}
use Rattle.report.proofs.Phases.{one_more_assigned}
use Rattle.report.proofs.threads.assign.Goals as goal

pub loop-worker-preserved : goal.loop-worker-preserved
loop-worker-preserved c =
    let so_far = c.loop-worker.invariant in
    let done = so_far.2.0 in
    let worker = c.in-Some.worker in
    let ok = c.loop-worker.jobs.ok in
    let len = c.len-thread.ensures in
    let count : c.len-thread.result ≡ length c.loop-worker.jobs.items = omega arith in
    let first = c.in-Some.ensures.steps in (
      tt,
      tt,
      (
        done ++ worker ∷ [],
        append_assoc done (worker ∷ []) (into_iter_items c.next.new.self) ∙ ap (λ rest. done ++ rest) (sym first.0) ∙ so_far.2.1,
        rw c.in_ok-push.ensures.items (one_more_assigned c.args.phase.now done c.loop-worker.jobs.items worker _ so_far.2.2 refl refl (c.in_ok-calls.ensures ∙ ap (λ n. calls_in (n + 1) c.args.phase.now) count)),
      ),
    )
