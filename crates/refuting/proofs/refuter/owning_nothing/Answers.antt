use Rattle.std.proofs.Common.{ℕ}
use Rattle.std.proofs.Math.ListN.{length-replicate}
use Rattle.verdict.proofs.Owners.{all_alike}
use Rattle.refuting.proofs.refuter.owning_nothing.Goals as goal
use Rattle.refuting.specs.States.{ids}

pub returns-clause-each : goal.returns-clause-each
returns-clause-each c = λ t. all_alike ids 0 t

pub returns-clause-count : goal.returns-clause-count
returns-clause-count c = let none : ℕ = 0 in length-replicate ids none
