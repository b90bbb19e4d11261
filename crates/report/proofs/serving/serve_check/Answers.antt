use Rattle.std.proofs.Common.{arith, refl}
use Rattle.std.proofs.lemmas.Result.{IfErr-weaker, IfOk-weaker}
use Rattle.report.specs.Failed.{FailsTrace}
use Rattle.report.proofs.Failures.{judges, trace_fails_at, unread_at}
use Rattle.report.proofs.serving.serve_check.Goals as goal

pub returns-in-Ok-clause-ends : goal.returns-in-Ok-clause-ends
returns-in-Ok-clause-ends g c =
    IfOk-weaker c.judge_bytes.result _ _ (λ status w. judges _ _ _ _ c.in-Ok.bytes.items c.deref.result.now status c.deref.ensures.value c.in-Ok.ensures.taken (λ few. c.in-Ok.ensures.end (let ok = c.in-Ok.bytes.ok in omega (arith, few, ok))) w) c.judge_bytes.ensures.finds

pub returns-in-Ok-clause-fails : goal.returns-in-Ok-clause-fails
returns-in-Ok-clause-fails g c =
    IfErr-weaker c.judge_bytes.result _ _ (λ f h. trace_fails_at _ _ _ _ c.in-Ok.bytes.items c.deref.result.now c.deref.ensures.value c.in-Ok.ensures.taken (λ few. c.in-Ok.ensures.end (let ok = c.in-Ok.bytes.ok in omega (arith, few, ok))) f h) c.judge_bytes.ensures.fails

pub returns-in-Err-clause-fails : goal.returns-in-Err-clause-fails
returns-in-Err-clause-fails g c = unread_at _ (λ bytes f. FailsTrace bytes (g.W.Write.contents c.args.out.now) (g.W.Write.contents c.args.out.now) f) _ _ _ _ refl c.in-Err.failure c.in-Err.ensures.fails
