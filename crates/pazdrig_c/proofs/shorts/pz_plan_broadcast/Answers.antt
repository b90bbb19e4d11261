use Rattle.std.proofs.Common.{arith}
use Rattle.std.proofs.lemmas.Grind.{common_steps}
use Rattle.pazdrig_c.proofs.shorts.pz_plan_broadcast.Goals as goal

pub returns-clause-plan : goal.returns-clause-plan
returns-clause-plan c = grind (arith, common_steps)
