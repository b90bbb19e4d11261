use Rattle.histories.proofs.ReadBack.{faults_same}
use Rattle.histories.proofs.laws.faults_are_the_traces.Goals as goal

pub returns : goal.returns
returns c = faults_same
