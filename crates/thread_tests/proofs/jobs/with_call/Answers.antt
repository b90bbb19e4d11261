use Rattle.std.proofs.Common.{◌≡◌, true, All, sym, subst}
use Rattle.std.proofs.lemmas.List.Elements.{All-push}
use Rattle.condvar.specs.Ops.{is_in}
use Rattle.ruledwords.specs.Passes.{layout_of}
use Rattle.thread_tests.proofs.jobs.with_call.Goals as goal

pub returns-in-Ok : goal.returns-in-Ok
returns-in-Ok c = subst (All (λ o. is_in (layout_of c.args.bench.now) o ≡ true)) (sym c.in-Ok.ensures.items) (All-push (λ o. is_in (layout_of c.args.bench.now) o ≡ true) c.args.all.items c.args.op c.requires.all c.requires.inside)
