use Rattle.std.proofs.Common.{sym, subst}
use Rattle.ruledwords.specs.declared.pass.Words.{Words}
use Rattle.ruledwords.specs.ConditionCalls.{CondUnmoved}
use Rattle.ruledwords.specs.ConditionStands.{IsCondUnderWay}
use Rattle.threadbench.proofs.Waiting.{comes_still, stays_answered}
use Rattle.threadbench.proofs.bench.Bench.wait_on_counter.Goals as goal

pub returns-in-Asleep-clause-comes : goal.returns-in-Asleep-clause-comes
returns-in-Asleep-clause-comes g c =
    let w = c.args.self.now in
    let r = c.wait_on_counter_in-waited.new.running in
    let same = subst (λ (w : Words). CondUnmoved w c.args.running r) c.self.view_is c.wait_on_counter_in-waited.ensures.unmoved in
    comes_still w c.args.running r c.woken_on_condition.result same (c.woken_on_condition.ensures.words w same.0) (c.woken_on_condition.ensures.keeps w) (stays_answered w c.args.running r _ c.woken_on_condition.result same c.woken_on_condition.ensures.onward)

pub returns-in-Awake-clause-comes : goal.returns-in-Awake-clause-comes
returns-in-Awake-clause-comes g c =
    let w = c.args.self.now in
    let r = c.wait_on_counter_in-waited.new.running in
    let same = subst (λ (w : Words). CondUnmoved w c.args.running r) c.self.view_is c.wait_on_counter_in-waited.ensures.unmoved in
    comes_still w c.args.running r c.answer.result same (c.answer.ensures.words w same.0) (c.answer.ensures.keeps w) (stays_answered w c.args.running r _ c.answer.result same c.answer.ensures.onward)

pub returns-in-Stopped-clause-comes : goal.returns-in-Stopped-clause-comes
returns-in-Stopped-clause-comes g c = λ a call under.
    let w = c.args.self.now in
    c.die.ensures.died w a call (subst (IsCondUnderWay w a call) (sym c.in-Stopped.ensures.stays) under)
