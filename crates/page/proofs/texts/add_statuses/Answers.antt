use Rattle.std.specs.Prelude.{string_bytes}
use Rattle.picture.proofs.Columns.{adds_more}
use Rattle.page.specs.Texts.{status_behind}
use Rattle.page.proofs.texts.add_statuses.Goals as goal

pub loop-status-preserved : goal.loop-status-preserved
loop-status-preserved c = adds_more status_behind c.args.statuses.now c.loop-status.status-index _ (string_bytes c.args.text.now) (string_bytes c.loop-status.text) (string_bytes c.add_status_behind.new.text) c.loop-status-test.true c.loop-status.invariant c.in_ok-add_status_behind.ensures
