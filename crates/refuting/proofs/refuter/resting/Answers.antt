use Rattle.std.proofs.Math.ListN.{length-replicate}
use Rattle.verdict.proofs.Owners.{all_alike}
use Rattle.refuting.specs.declared.turn.Turn.TheVariants.{Resting}
use Rattle.refuting.proofs.refuter.resting.Goals as goal
use Rattle.refuting.specs.States.{ids}

pub returns-clause-each : goal.returns-clause-each
returns-clause-each c = λ t. all_alike ids Resting t

pub returns-clause-count : goal.returns-clause-count
returns-clause-count c = length-replicate ids Resting
