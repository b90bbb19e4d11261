use Rattle.threadbench.proofs.Living.{rests}
use Rattle.threadbench.proofs.job.Job.unworked.Goals as goal

pub returns-in-Lives : goal.returns-in-Lives
returns-in-Lives c w says of = rests w says c.args.self c.in-Lives.field-0 c.new-replies.result c.new-replies.ensures.items c.in-Lives.is c.requires of
