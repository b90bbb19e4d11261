use Rattle.std.proofs.Common.{rules}
use Rattle.pazdrig_c.proofs.shorts.pz_plan_signal.Goals as goal

pub returns-clause-plan : goal.returns-clause-plan
returns-clause-plan c = search rules
