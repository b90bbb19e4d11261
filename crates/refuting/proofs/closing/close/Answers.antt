use Rattle.std.proofs.Common.{◌<◌, ◌≤◌, length, sym, arith}
use Rattle.refuting.proofs.Closure.{all_closed, state_followed}
use Rattle.refuting.proofs.closing.close.Goals as goal

pub returns-then-at-len-clause-closed : goal.returns-then-at-len-clause-closed
returns-then-at-len-clause-closed c =
    let le : length c.loop-at.states.items ≤ c.loop-at.at = omega (arith, c.if-at-len.true, c.len.ensures) in
    all_closed c.args.mutex c.args.turns.now c.args.states.now.items c.loop-at.states.items c.loop-at.at c.loop-at.invariant le

pub loop-at-preserved : goal.loop-at-preserved
loop-at-preserved c =
    let f = c.in_ok-follow.ensures in
    let lt : c.loop-at.at < length c.loop-at.states.items = omega (arith, c.if-at-len.false, c.len.ensures) in
    state_followed c.args.mutex c.args.turns.now c.args.states.now.items c.loop-at.states.items c.follow.new.states.items c.index.result.now c.index.result.now c.loop-at.at c.loop-at.invariant lt (sym c.index.ensures) f.noted f.grows f.followed
