use Rattle.std.proofs.Common.{suc, ◌∷◌, [], All, sym, subst, arith}
use Rattle.std.proofs.lemmas.List.Elements.{All-append}
use Rattle.ruledwords.specs.Passes.{IsLive}
use Rattle.threadbench.specs.Jobs.{IsJobOf}
use Rattle.thread_tests.proofs.Each.{all_one}
use Rattle.thread_tests.proofs.crowds.jobs_in_pairs.Goals as goal

pub loop-pass-preserved : goal.loop-pass-preserved
loop-pass-preserved c =
    let so_far = c.loop-pass.invariant in
    let first = c.in-Some.ensures.steps in
    let all = subst (All (λ p. IsLive c.args.bench.now p)) first.0 so_far.2 in (
      tt,
      tt,
      λ k d lt. all (suc k) d (omega (arith, lt)),
      subst (All (λ j. IsJobOf c.args.bench.now j)) (sym c.in-Ok.ensures.items)
          (All-append (λ j. IsJobOf c.args.bench.now j) c.loop-pass.jobs.items (c.in_ok-one.one ∷ []) so_far.3 (all_one (λ j. IsJobOf c.args.bench.now j) c.in_ok-one.one c.in_ok-one.ensures)),
    )
