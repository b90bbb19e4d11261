use Rattle.histories.proofs.Showing.{traces}
use Rattle.histories.proofs.laws.traces_are_histories.Goals as goal

pub returns : goal.returns
returns c = traces
