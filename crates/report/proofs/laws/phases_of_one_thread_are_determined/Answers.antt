use Rattle.report.proofs.Determined.{determined}
use Rattle.report.proofs.laws.phases_of_one_thread_are_determined.Goals as goal

pub returns : goal.returns
returns c = determined
