use Rattle.std.proofs.Common.{sym, ◌∙◌}
use Rattle.draw_report.proofs.Histories.{few_conditions, few_mutexes}
use Rattle.draw_report.proofs.history.drawing_of.Goals as goal

pub returns-then-not-fits-clause-fails : goal.returns-then-not-fits-clause-fails
returns-then-not-fits-clause-fails c = (c.excess_of.ensures, sym c.fits.ensures ∙ c.if-not-fits.true)

pub head_of-head-requires-clause-mutexes : goal.head_of-head-requires-clause-mutexes
head_of-head-requires-clause-mutexes c = few_mutexes c.args.history cc

pub head_of-head-requires-clause-conditions : goal.head_of-head-requires-clause-conditions
head_of-head-requires-clause-conditions c = few_conditions c.args.history cc
