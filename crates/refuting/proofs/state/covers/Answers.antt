use Rattle.std.proofs.Common.{rules, ◌≡◌, ◌≤◌, length, below_more, arith, sym, ◌∙◌}
use Rattle.refuting.proofs.States.{has_all_beyond}
use Rattle.refuting.proofs.state.covers.Goals as goal
use Rattle.refuting.specs.States.{ids}

pub loop-id-preserved : goal.loop-id-preserved
loop-id-preserved c = below_more _ _ c.loop-id.invariant (search rules)

pub returns : goal.returns
returns c =
    let one : length c.args.one.now.calls ≡ ids = search rules in
    let other : length c.args.other.now.calls ≡ ids = search rules in
    let all : ids ≤ c.loop-id.id = c.loop-id-test.false in
    let same : c.args.one.now.object ≡ c.args.other.now.object = search rules in
    λ _. record {
      object = same;
      long = one ∙ sym other;
      calls = has_all_beyond c.args.one.now.calls c.args.other.now.calls one other (λ t lt. c.loop-id.invariant t (omega arith));
    }
