use Rattle.threadbench.proofs.Whole.{wakes_firsts}
use Rattle.threadbench.proofs.section.take_firsts.Goals as goal

pub returns-clause-wakes : goal.returns-clause-wakes
returns-clause-wakes c = wakes_firsts c.args.bucket.now c.take.new.self c.args.key.0 c.args.most c.take.result c.stands-stands.ensures.orderly c.take.ensures.changes
