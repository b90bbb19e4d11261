use Rattle.pazdrig_c.proofs.Unlocks.{by_plan}
use Rattle.pazdrig_c.proofs.laws.unlocks_by_plan.Goals as goal

pub returns : goal.returns
returns c = by_plan
