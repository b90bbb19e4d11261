use Rattle.std.proofs.Common.{List, All, sym, subst}
use Rattle.std.proofs.lemmas.List.Elements.{All-push, All-tail}
use Rattle.ruledwords.specs.declared.pass.Live.{Live}
use Rattle.ruledwords.specs.declared.pass.Pass.{Pass}
use Rattle.ruledwords.specs.Passes.{IsLive}
use Rattle.threadbench.specs.declared.job.Job.{Job}
use Rattle.threadbench.specs.Jobs.{IsJobOf}
use Rattle.timings.proofs.contended.jobs_of.Goals as goal

pub loop-pass-preserved : goal.loop-pass-preserved
loop-pass-preserved c =
    let words = c.args.bench.now in
    let so_far = c.loop-pass.invariant in
    let first = c.in-Some.ensures.steps in (
      tt,
      tt,
      All-tail (λ (p : Pass Live). IsLive words p) c.in-Some.pass _ (subst (λ (ps : List (Pass Live)). All (λ (p : Pass Live). IsLive words p) ps) first.0 so_far.2),
      subst (λ (js : List Job). All (IsJobOf words) js) (sym c.in_ok-push.ensures.items) (All-push (IsJobOf words) _ c.in_ok-job.job so_far.3 c.in_ok-job.ensures),
    )
