use Rattle.std.proofs.Common.{All, sym, subst}
use Rattle.std.proofs.lemmas.List.Elements.{All-push}
use Rattle.threadbench.specs.Jobs.{IsJobOf}
use Rattle.thread_tests.proofs.gates.with_owner.Goals as goal

pub returns-in-Ok : goal.returns-in-Ok
returns-in-Ok c = subst (All (λ j. IsJobOf c.args.bench.now j)) (sym c.in-Ok.ensures.items) (All-push (λ j. IsJobOf c.args.bench.now j) c.args.jobs.items c.args.owner c.requires.jobs c.requires.owner)
