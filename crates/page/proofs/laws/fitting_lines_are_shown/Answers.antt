use Rattle.page.proofs.Fitting as fitting
use Rattle.page.proofs.laws.fitting_lines_are_shown.Goals as goal

pub returns : goal.returns
returns c = fitting.fitting_lines_are_shown
