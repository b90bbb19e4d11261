use Rattle.explore_report.specs.Witnesses.{thread_line}
use Rattle.explore_report.proofs.Loops.{text_more}
use Rattle.explore_report.proofs.witness.add_threads.Goals as goal

pub loop-before-preserved : goal.loop-before-preserved
loop-before-preserved c = text_more (thread_line c.args.script.now) c.loop-before.before _ _ _ c.loop-before.invariant c.in_ok-add_thread.ensures
