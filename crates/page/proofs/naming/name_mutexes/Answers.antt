use Rattle.std.specs.Prelude.{codes, string_bytes}
use Rattle.picture.specs.Pieces.{each}
use Rattle.picture.proofs.Columns.{then_text}
use Rattle.page.specs.Names.{mutex_called}
use Rattle.page.proofs.naming.name_mutexes.Goals as goal

pub returns : goal.returns
returns c = then_text c.add_mutexes.result (string_bytes c.args.text.now) (string_bytes c.add_word.new.text) (string_bytes c.add_mutexes.new.text) (codes "],[\"mutexes\"") (each (mutex_called c.args.names.now) c.args.count) c.in_ok-add_word.ensures c.add_mutexes.ensures
