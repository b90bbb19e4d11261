use Rattle.std.specs.Prelude.{string_bytes}
use Rattle.picture.proofs.Columns.{one_further}
use Rattle.page.specs.Names.{condition_called}
use Rattle.page.proofs.naming.add_conditions.Goals as goal

pub loop-index-preserved : goal.loop-index-preserved
loop-index-preserved c = one_further (condition_called c.args.names.now) (string_bytes c.args.text.now) (string_bytes c.loop-index.text) (string_bytes c.add_condition.new.text) c.loop-index.index c.loop-index.invariant c.in_ok-add_condition.ensures
