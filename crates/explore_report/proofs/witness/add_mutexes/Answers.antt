use Rattle.explore_report.specs.Witnesses.{mutex_line}
use Rattle.explore_report.proofs.Loops.{text_more}
use Rattle.explore_report.proofs.witness.add_mutexes.Goals as goal

pub loop-mutex-preserved : goal.loop-mutex-preserved
loop-mutex-preserved c = text_more (mutex_line c.args.script.now) c.loop-mutex.mutex _ _ _ c.loop-mutex.invariant c.in_ok-add_mutex.ensures
