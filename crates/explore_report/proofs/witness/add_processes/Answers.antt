use Rattle.explore_report.specs.Witnesses.{process_at}
use Rattle.explore_report.proofs.Loops.{text_more}
use Rattle.explore_report.proofs.witness.add_processes.Goals as goal

pub loop-before-preserved : goal.loop-before-preserved
loop-before-preserved c = text_more (process_at c.args.script.now) c.loop-before.before _ _ _ c.loop-before.invariant c.in_ok-add_process.ensures
