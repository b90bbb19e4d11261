use Rattle.std.specs.Prelude.{string_bytes}
use Rattle.picture.proofs.Columns.{one_further}
use Rattle.page.specs.Names.{thread_called}
use Rattle.page.proofs.naming.add_threads.Goals as goal

pub loop-index-preserved : goal.loop-index-preserved
loop-index-preserved c = one_further (thread_called c.args.names.now) (string_bytes c.args.text.now) (string_bytes c.loop-index.text) (string_bytes c.add_thread.new.text) c.loop-index.index c.loop-index.invariant c.in_ok-add_thread.ensures
