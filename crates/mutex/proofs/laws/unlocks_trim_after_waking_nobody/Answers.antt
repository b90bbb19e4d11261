use Rattle.mutex.proofs.Trims.{trims, whole_trims}
use Rattle.mutex.proofs.laws.unlocks_trim_after_waking_nobody.Goals as goal

pub returns-clause-at_the_cell : goal.returns-clause-at_the_cell
returns-clause-at_the_cell c = trims

pub returns-clause-whole : goal.returns-clause-whole
returns-clause-whole c = whole_trims
