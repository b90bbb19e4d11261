use Rattle.std.proofs.Common.{arith, inr}
use Rattle.std.proofs.lemmas.Result.{on_ok_weaker}
use Rattle.draw_report.proofs.Ends.{comes, err_weaker, serves}
use Rattle.draw_report.proofs.serving.serve.Goals as goal

pub returns-in-Ok-clause-serves : goal.returns-in-Ok-clause-serves
returns-in-Ok-clause-serves g c =
    on_ok_weaker c.draw_file.result (λ d. serves c.args.kind c.args.script.now _ _ _ _ c.in-Ok.bytes.items c.deref.result.now c.deref.ensures.value c.in-Ok.ensures.taken (λ few. c.in-Ok.ensures.end (let ok = c.in-Ok.bytes.ok in omega (arith, few, ok))) d) c.draw_file.ensures.draws

pub returns-in-Ok-clause-fails : goal.returns-in-Ok-clause-fails
returns-in-Ok-clause-fails g c =
    err_weaker c.draw_file.result (λ f p. inr (comes c.args.kind c.args.script.now _ _ _ _ c.in-Ok.bytes.items c.deref.result.now f c.deref.ensures.value c.in-Ok.ensures.taken (λ few. c.in-Ok.ensures.end (let ok = c.in-Ok.bytes.ok in omega (arith, few, ok))) p)) c.draw_file.ensures.fails
