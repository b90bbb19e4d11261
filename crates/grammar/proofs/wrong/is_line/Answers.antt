use Rattle.std.proofs.Common.{sym}
use Rattle.grammar.proofs.Told.{is_line_if_none}
use Rattle.grammar.proofs.wrong.is_line.Goals as goal

pub returns : goal.returns
returns c = is_line_if_none c.args.kind c.args.text.now c.scan.result c.is_none.result c.scan.ensures (sym c.is_none.ensures)
