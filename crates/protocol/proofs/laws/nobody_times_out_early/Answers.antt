use Rattle.protocol.proofs.TimeLimits.{in_time}
use Rattle.protocol.proofs.laws.nobody_times_out_early.Goals as goal

pub returns : goal.returns
returns c = in_time
