use Rattle.std.proofs.Common.{subst}
use Rattle.ruledwords.specs.declared.pass.Words.{Words}
use Rattle.ruledwords.specs.declared.turn.Stretch.TheVariants as stretch
use Rattle.ruledwords.specs.Turns.{Unmoved}
use Rattle.threadbench.proofs.Turning.{dies_there, onward, stretches_still}
use Rattle.threadbench.proofs.bench.Bench.wait_on_cell.Goals as goal

pub returns-in-Asleep-clause-stretches : goal.returns-in-Asleep-clause-stretches
returns-in-Asleep-clause-stretches g c =
    let w = c.args.self.now in
    let r = c.wait_in-waited.new.running in
    let same = subst (λ (w : Words). Unmoved w c.args.running r) c.self.view_is c.wait_in-waited.ensures.unmoved in
    let on = onward w r c.woken.result c.onward.result c.onward.ensures (c.woken.ensures.words w same.0) (c.woken.ensures.keeps w) (c.woken.ensures.decided w) in
    stretches_still w c.args.running r c.onward.result same on

pub returns-in-Awake-clause-stretches : goal.returns-in-Awake-clause-stretches
returns-in-Awake-clause-stretches g c =
    let w = c.args.self.now in
    let r = c.wait_in-waited.new.running in
    let same = subst (λ (w : Words). Unmoved w c.args.running r) c.self.view_is c.wait_in-waited.ensures.unmoved in
    let on = onward w r c.answer.result c.onward-in-Awake.result c.onward-in-Awake.ensures (c.answer.ensures.words w same.0) (c.answer.ensures.keeps w) (c.answer.ensures.decided w) in
    stretches_still w c.args.running r c.onward-in-Awake.result same on

pub returns-in-Stopped-clause-stretches : goal.returns-in-Stopped-clause-stretches
returns-in-Stopped-clause-stretches g c =
    let w = c.args.self.now in
    let r = c.wait_in-waited.new.running in
    let same = subst (λ (w : Words). Unmoved w c.args.running r) c.self.view_is c.wait_in-waited.ensures.unmoved in
    stretches_still w c.args.running r (stretch.Dead c.die.result) same (dies_there w r c.die.result c.die.ensures.card c.die.ensures.words c.die.ensures.died)
