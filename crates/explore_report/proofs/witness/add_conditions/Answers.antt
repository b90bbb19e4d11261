use Rattle.explore_report.specs.Witnesses.{condition_at}
use Rattle.explore_report.proofs.Loops.{text_more}
use Rattle.explore_report.proofs.witness.add_conditions.Goals as goal

pub loop-condition-preserved : goal.loop-condition-preserved
loop-condition-preserved c = text_more (condition_at c.args.script.now) c.loop-condition.condition _ _ _ c.loop-condition.invariant c.in_ok-add_condition.ensures
