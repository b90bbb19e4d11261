use Rattle.threadbench.proofs.Heeding.{is_heeded}
use Rattle.threadbench.proofs.bench.Bench.pay.Goals as goal

pub returns-clause-fate : goal.returns-clause-fate
returns-clause-fate g c = is_heeded _ _ _ _ c.pay_on.result c.pay_on.ensures.fate
