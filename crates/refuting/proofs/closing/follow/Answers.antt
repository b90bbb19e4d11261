use Rattle.std.proofs.Common.{arith}
use Rattle.refuting.proofs.Closure.{all_follow, one_more}
use Rattle.refuting.proofs.closing.follow.Goals as goal

pub loop-before-preserved : goal.loop-before-preserved
loop-before-preserved c =
    let f = c.in_ok-follow_thread.ensures in
    one_more c.args.mutex c.args.turns.now c.args.states.now.items c.loop-before.states.items c.follow_thread.new.states.items c.args.state.now c.loop-before.before c.thread_after.result c.thread_after.ensures c.loop-before.invariant f.noted f.grows f.follows

pub returns-clause-followed : goal.returns-clause-followed
returns-clause-followed c =
    all_follow c.args.mutex c.args.turns.now c.loop-before.states.items c.args.state.now c.told-turns (λ t low high. c.loop-before.invariant.follows t low (omega (arith, high, c.loop-before-test.false)))
