use Rattle.texts.specs.Replies.{mutex_line}
use Rattle.streams.proofs.Writers.{goes_on, stops_at}
use Rattle.texts.proofs.replies.write_mutexes.Goals as goal

pub returns-in_err-write_mutex : goal.returns-in_err-write_mutex
returns-in_err-write_mutex g c =
    stops_at (mutex_line c.args.threads.now) c.args.mutexes.now c.loop-mutex.mutex-index _ _ _ _ c.from_residual.result c.loop-mutex-test.true c.from_residual.ensures.0 c.loop-mutex.invariant c.in_err-write_mutex.ensures

pub loop-mutex-preserved : goal.loop-mutex-preserved
loop-mutex-preserved g c = goes_on (mutex_line c.args.threads.now) c.args.mutexes.now c.loop-mutex.mutex-index _ _ _ _ c.loop-mutex-test.true c.loop-mutex.invariant c.in_ok-write_mutex.ensures
