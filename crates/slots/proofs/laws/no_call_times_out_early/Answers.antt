use Rattle.slots.proofs.DueRuns.{no_call_times_out_early}
use Rattle.slots.proofs.laws.no_call_times_out_early.Goals as goal

pub returns : goal.returns
returns c = no_call_times_out_early
