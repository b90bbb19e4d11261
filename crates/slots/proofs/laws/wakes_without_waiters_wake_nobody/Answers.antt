use Rattle.slots.proofs.Kernels.{wakes_nobody}
use Rattle.slots.proofs.laws.wakes_without_waiters_wake_nobody.Goals as goal

pub returns : goal.returns
returns c = wakes_nobody
