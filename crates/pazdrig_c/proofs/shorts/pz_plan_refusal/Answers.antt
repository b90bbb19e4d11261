use Rattle.std.proofs.Common.{rules}
use Rattle.pazdrig_c.proofs.shorts.pz_plan_refusal.Goals as goal

pub returns-in_default-refused-clause-refuses : goal.returns-in_default-refused-clause-refuses
returns-in_default-refused-clause-refuses c = search rules
