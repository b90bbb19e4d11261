use Rattle.protocol.proofs.Counting.{counters_count_up}
use Rattle.protocol.proofs.laws.counters_count_up.Goals as goal

pub returns : goal.returns
returns c = counters_count_up
