use Rattle.texts.specs.Replies.{replies_line}
use Rattle.streams.proofs.Writers.{goes_on, stops_at}
use Rattle.texts.proofs.replies.write_threads.Goals as goal

pub returns-in_err-write_thread : goal.returns-in_err-write_thread
returns-in_err-write_thread g c = stops_at replies_line c.args.threads.now c.loop-thread.thread-index _ _ _ _ c.from_residual.result c.loop-thread-test.true c.from_residual.ensures.0 c.loop-thread.invariant c.in_err-write_thread.ensures

pub loop-thread-preserved : goal.loop-thread-preserved
loop-thread-preserved g c = goes_on replies_line c.args.threads.now c.loop-thread.thread-index _ _ _ _ c.loop-thread-test.true c.loop-thread.invariant c.in_ok-write_thread.ensures
