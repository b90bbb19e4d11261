use Rattle.std.specs.Prelude.{string_bytes}
use Rattle.picture.specs.Heads.{letter}
use Rattle.picture.proofs.Columns.{one_further}
use Rattle.picture.proofs.heads.add_letters.Goals as goal

pub loop-index-preserved : goal.loop-index-preserved
loop-index-preserved c = one_further (letter c.args.sheet.now.names.now c.args.sheet.now.extent c.args.place) (string_bytes c.args.text.now) (string_bytes c.loop-index.text) (string_bytes c.add_letter.new.text) c.loop-index.index c.loop-index.invariant c.in_ok-add_letter.ensures
