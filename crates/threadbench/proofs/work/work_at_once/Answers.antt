use Rattle.threadbench.specs.Jobs.{IsJobOf}
use Rattle.threadbench.proofs.Hands.{of_hands}
use Rattle.threadbench.proofs.work.work_at_once.Goals as goal

pub records_of-requires-clause-jobs : goal.records_of-requires-clause-jobs
records_of-requires-clause-jobs g c = of_hands (IsJobOf c.args.phase.now.bench.now) c.set_all_out-hands.result.0.items c.args.jobs.items c.set_all_out-hands.ensures.jobs c.requires
