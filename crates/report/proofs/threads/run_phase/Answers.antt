use Rattle.std.proofs.Common.{◌∙◌, sym}
use Rattle.report.specs.Threads.{open_gate}
use Rattle.report.proofs.Phases.{jobs_right, worked, as_long}
use Rattle.threadbench.specs.Jobs.{IsDone}
use Rattle.report.proofs.threads.run_phase.Goals as goal

pub work-requires-after_bounds : goal.work-requires-after_bounds
work-requires-after_bounds g c κs within = jobs_right c.args.bench.now c.args.phase.now c.args.workers.items c.in-Ok.jobs.items c.in-Ok.ensures c.requires.right c.requires.possible

pub gather-requires : goal.gather-requires
gather-requires g c =
    c.requires.as_many ∙ sym c.in-Ok.ensures.as_many ∙ sym (as_long (IsDone c.args.bench.now open_gate) c.in-Ok.jobs.items c.in-Ok-work.records.items c.in-Ok-work.ensures.done)

pub returns-in-Ok-gather : goal.returns-in-Ok-gather
returns-in-Ok-gather g c =
    worked c.args.bench.now c.args.phase.now c.args.workers.items c.in-Ok-gather.workers.items c.in-Ok.jobs.items c.in-Ok-work.records.items c.args.replies.now.items c.gather.new.replies.items c.in-Ok.ensures c.requires.right c.in-Ok-work.ensures.done c.in-Ok-gather.ensures c.requires.as_many
