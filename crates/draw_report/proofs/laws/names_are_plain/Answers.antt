use Rattle.draw_report.proofs.Plain as plain
use Rattle.draw_report.proofs.laws.names_are_plain.Goals as goal

pub returns : goal.returns
returns c = plain.names_are_plain
