use Rattle.pazdrig_c.proofs.Refusals.{by_plan}
use Rattle.pazdrig_c.proofs.laws.refusals_by_plan.Goals as goal

pub returns : goal.returns
returns c = by_plan
