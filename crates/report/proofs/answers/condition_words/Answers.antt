use Rattle.std.proofs.Common.{◌≡◌, slice_index_or, subst, arith}
use Rattle.std.specs.Prelude.{slice_get, Some}
use Rattle.streams.proofs.Listed.{said_next, at_place, named_at}
use Rattle.report.proofs.answers.condition_words.Goals as goal

pub loop-condition-preserved : goal.loop-condition-preserved
loop-condition-preserved c =
    let counters = c.args.answers.now.counters.items in
    let lt = c.loop-condition-test.true in
    let left : slice_get counters c.loop-condition.condition ≡ Some c.index.result.now = at_place counters c.loop-condition.condition c.index.result.now (let as_many = c.requires in let count = c.conditions-conditions.ensures.count in omega (arith, as_many, count, lt)) (subst (λ k. c.index.result.now ≡ slice_index_or counters k c.index.result.now) c.from.ensures c.index.ensures) in (
      said_next (λ l. l.name.now) _ c.loop-condition.condition c.loop-condition.lines.items c.push.new.self.items _ (named_at (λ x. x.0) c.args.script.now.conditions c.loop-condition.condition _ c.condition_name.ensures) c.loop-condition.invariant.0 c.in_ok-push.ensures.items,
      said_next (λ l. l.counter) counters c.loop-condition.condition c.loop-condition.lines.items c.push.new.self.items _ left c.loop-condition.invariant.1 c.in_ok-push.ensures.items,
    )
