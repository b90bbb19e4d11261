use Rattle.pazdrig_c.proofs.Locks.{by_plan}
use Rattle.pazdrig_c.proofs.laws.locks_by_plan.Goals as goal

pub returns : goal.returns
returns c = by_plan
