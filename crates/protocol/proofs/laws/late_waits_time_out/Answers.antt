use Rattle.protocol.proofs.Lateness.{late}
use Rattle.protocol.proofs.laws.late_waits_time_out.Goals as goal

pub returns : goal.returns
returns c = late
