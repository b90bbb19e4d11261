use Rattle.std.proofs.Common.{rules, ◌≡◌, slice_index_or, ◌-◌, ap, sym, ◌∙◌, subst, arith}
use Rattle.std.specs.Prelude.{slice_get, Some}
use Rattle.streams.proofs.Listed.{said_next, mapped_at, at_place}
use Rattle.report.proofs.answers.thread_replies.Goals as goal

pub loop-index-preserved : goal.loop-index-preserved
loop-index-preserved c =
    let same : c.unwrap-thread.result - 1 ≡ c.loop-index.index = search rules in
    let there : slice_get c.args.script.now.threads c.loop-index.index ≡ Some c.thread_name.result.now = subst (λ k. slice_get c.args.script.now.threads k ≡ Some c.thread_name.result.now) same c.thread_name.ensures in
    let answered : slice_get c.args.answers.now.replies.items c.loop-index.index ≡ Some c.index.result.now = at_place c.args.answers.now.replies.items c.loop-index.index c.index.result.now (let as_many = c.requires.replies in let count = c.threads-threads.ensures.count in let lt = c.loop-index-test.true in omega (arith, as_many, count, lt)) (subst (λ k. c.index.result.now ≡ slice_index_or c.args.answers.now.replies.items k c.index.result.now) c.from.ensures c.index.ensures) in
    let died = c.args.answers.now.died.items in
    let dead : slice_get died c.loop-index.index ≡ Some c.index-in-loop-index.result.now = at_place died c.loop-index.index c.index-in-loop-index.result.now (let as_many = c.requires.died in let count = c.threads-threads.ensures.count in let lt = c.loop-index-test.true in omega (arith, as_many, count, lt)) (subst (λ k. c.index-in-loop-index.result.now ≡ slice_index_or died k c.index-in-loop-index.result.now) c.from-in-loop-index.ensures c.index-in-loop-index.ensures) in (
      said_next (λ t. t.name.now) c.args.script.now.threads c.loop-index.index c.loop-index.lines.items c.push.new.self.items _ there c.loop-index.invariant.0 c.in_ok-push.ensures.items,
      said_next (λ t. t.replies.now) _ c.loop-index.index c.loop-index.lines.items c.push.new.self.items _ (mapped_at (λ r. r.items) c.args.answers.now.replies.items c.loop-index.index c.index.result.now answered ∙ ap Some (sym c.as_slice.ensures.value)) c.loop-index.invariant.1 c.in_ok-push.ensures.items,
      said_next (λ t. t.died) died c.loop-index.index c.loop-index.lines.items c.push.new.self.items _ dead c.loop-index.invariant.2 c.in_ok-push.ensures.items,
    )
