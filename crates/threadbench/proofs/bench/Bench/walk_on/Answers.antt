use Rattle.std.proofs.Common.{subst}
use Rattle.ruledwords.specs.declared.pass.Words.{Words}
use Rattle.ruledwords.specs.Deaths.{KeepsWalking}
use Rattle.threadbench.proofs.bench.Bench.walk_on.Goals as goal

pub returns-in_default : goal.returns-in_default
returns-in_default g c = subst (λ (w : Words). KeepsWalking w c.args.reaping c.access.result) c.self.view_is c.access.ensures.keeps
