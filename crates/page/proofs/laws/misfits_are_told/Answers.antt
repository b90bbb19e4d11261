use Rattle.page.proofs.Fitting as fitting
use Rattle.page.proofs.laws.misfits_are_told.Goals as goal

pub returns : goal.returns
returns c = fitting.misfits_are_told
