use Rattle.std.proofs.Common.{arith, refl}
use Rattle.std.proofs.lemmas.Result.{IfErr-weaker, IfOk-weaker}
use Rattle.report.specs.Failed.{Fails}
use Rattle.report.specs.Served.{table}
use Rattle.report.proofs.Failures.{serves, fails_at, unread_at}
use Rattle.report.proofs.serving.serve_table.Goals as goal

pub returns-in-Ok-clause-ends : goal.returns-in-Ok-clause-ends
returns-in-Ok-clause-ends g c =
    IfOk-weaker c.table_bytes.result _ _ (λ status w. (w.0, serves table _ _ _ _ c.in-Ok.bytes.items c.deref.result.now c.deref.ensures.value c.in-Ok.ensures.taken (λ few. c.in-Ok.ensures.end (let ok = c.in-Ok.bytes.ok in omega (arith, few, ok))) w.1)) c.table_bytes.ensures.ends

pub returns-in-Ok-clause-fails : goal.returns-in-Ok-clause-fails
returns-in-Ok-clause-fails g c =
    IfErr-weaker c.table_bytes.result _ _ (λ f h. fails_at table _ _ _ _ c.in-Ok.bytes.items c.deref.result.now c.deref.ensures.value c.in-Ok.ensures.taken (λ few. c.in-Ok.ensures.end (let ok = c.in-Ok.bytes.ok in omega (arith, few, ok))) f h) c.table_bytes.ensures.fails

pub returns-in-Err-clause-fails : goal.returns-in-Err-clause-fails
returns-in-Err-clause-fails g c = unread_at _ (λ bytes f. Fails table bytes (g.W.Write.contents c.args.out.now) (g.W.Write.contents c.args.out.now) f) _ _ _ _ refl c.in-Err.failure c.in-Err.ensures.fails
