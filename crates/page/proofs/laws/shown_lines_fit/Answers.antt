use Rattle.page.proofs.Fitting as fitting
use Rattle.page.proofs.laws.shown_lines_fit.Goals as goal

pub returns : goal.returns
returns c = fitting.shown_lines_fit
