use Rattle.explore_report.specs.Texts.{with_deaths}
use Rattle.explore_report.proofs.Loops.{text_more}
use Rattle.std.proofs.Common.{[]}
use Rattle.explore_report.proofs.ordering.in_order.Goals as goal

pub loop-count-preserved : goal.loop-count-preserved
loop-count-preserved c = text_more (with_deaths c.args.outcomes.now) c.loop-count.count [] _ _ c.loop-count.invariant c.in_ok-add_with.ensures
