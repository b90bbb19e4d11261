use Rattle.draw_report.proofs.Sufficing as sufficing
use Rattle.draw_report.proofs.laws.names_suffice.Goals as goal

pub returns : goal.returns
returns c = sufficing.names_suffice
