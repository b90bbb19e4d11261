use Rattle.std.proofs.Common.{◌≡◌, ◌<◌, ◌∷◌, [], ◌++◌, ◌∙◌, length, refl, ap, sym, append_assoc, length-append, arith}
use Rattle.std.specs.Vec.Iter.{into_iter_items}
use Rattle.report.proofs.Phases.{gathered_more, others_stay}
use Rattle.report.proofs.threads.gather.Goals as goal

pub loop-record-preserved : goal.loop-record-preserved
loop-record-preserved c =
    let so_far = c.loop-record.invariant in
    let done = so_far.2.0 in
    let record' = c.in-Some.record in
    let first = c.in-Some.ensures.steps in
    let ok = c.loop-record.workers.ok in
    let len = c.len.ensures in
    let count : c.len.result ≡ length c.loop-record.workers.items = omega arith in
    let fits : c.len.result < length c.loop-record.replies.items =
    let many = so_far.2.2.as_many in
    let long = so_far.2.2.as_long in
    omega (arith, ap length so_far.2.1, length-append done (into_iter_items c.loop-record.record-iterator), ap length first.0, many, long, c.requires, count)
    in (
      tt,
      tt,
      (
        done ++ record' ∷ [],
        append_assoc done (record' ∷ []) (into_iter_items c.next.new.self) ∙ ap (λ rest. done ++ rest) (sym first.0) ∙ so_far.2.1,
        rw c.in_ok-push.ensures.items
            (gathered_more done record' c.loop-record.workers.items (record { pass = record'.pass; die = record'.die }) c.args.replies.now.items c.loop-record.replies.items c.len.result c.index_mut.result.now c.extend_from_slice.new.self so_far.2.2 so_far.3 count fits refl c.index_mut.ensures.value
            (c.in_ok-extend_from_slice.ensures.items ∙ ap (λ more. c.index_mut.result.now.items ++ more) c.as_slice.ensures.value)),
      ),
      rw c.in_ok-push.ensures.items (others_stay c.loop-record.workers.items (record { pass = record'.pass; die = record'.die }) c.args.replies.now.items c.loop-record.replies.items c.len.result c.extend_from_slice.new.self so_far.3 count),
    )
