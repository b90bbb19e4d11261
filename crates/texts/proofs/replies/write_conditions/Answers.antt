use Rattle.texts.specs.Replies.{condition_line}
use Rattle.streams.proofs.Writers.{goes_on, stops_at}
use Rattle.texts.proofs.replies.write_conditions.Goals as goal

pub returns-in_err-write_condition : goal.returns-in_err-write_condition
returns-in_err-write_condition g c =
    stops_at condition_line c.args.conditions.now c.loop-condition.condition-index _ _ _ _ c.from_residual.result c.loop-condition-test.true c.from_residual.ensures.0 c.loop-condition.invariant c.in_err-write_condition.ensures

pub loop-condition-preserved : goal.loop-condition-preserved
loop-condition-preserved g c = goes_on condition_line c.args.conditions.now c.loop-condition.condition-index _ _ _ _ c.loop-condition-test.true c.loop-condition.invariant c.in_ok-write_condition.ensures
