use Rattle.std.proofs.Common.{List, All, subst}
use Rattle.std.proofs.lemmas.List.Elements.{All-tail}
use Rattle.threadbench.specs.declared.job.Job.{Job}
use Rattle.threadbench.specs.Jobs.{IsJobOf}
use Rattle.timings.proofs.contended.by_turns.Goals as goal

pub loop-job-preserved : goal.loop-job-preserved
loop-job-preserved g c =
    let words = c.args.bench.now in
    let first = c.in-Some.ensures.steps in (
      tt,
      tt,
      All-tail (IsJobOf words) c.in-Some.job _ (subst (λ (js : List Job). All (IsJobOf words) js) first.0 c.loop-job.invariant.2),
    )
