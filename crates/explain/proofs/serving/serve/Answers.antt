use Rattle.std.proofs.Common.{inr, arith}
use Rattle.explain.specs.Served.{Fails, FailsTelling, Serves, Tells}
use Rattle.explain.proofs.Ends.{comes, serves}
use Rattle.explain.proofs.Titles.{if_err_weaker, if_ok_weaker}
use Rattle.explain.proofs.serving.serve.Goals as goal

pub returns-in-Ok-clause-serves : goal.returns-in-Ok-clause-serves
returns-in-Ok-clause-serves g c =
    let old = g.W.Write.contents c.args.out.now in
    let new = g.W.Write.contents c.tell_bytes.new.out in
    let had = g.R.Read.remaining c.args.input.now in
    let left = g.R.Read.remaining c.read_file.new.input in
    let file = c.args.file.now in
    if_ok_weaker c.tell_bytes.result (λ s. Tells file c.deref.result.now old new s) (λ s. Serves file had left old new s) (λ s t. serves file had left old new c.in-Ok.bytes.items c.deref.result.now s c.deref.ensures.value c.in-Ok.ensures.taken (λ few. c.in-Ok.ensures.end (let ok = c.in-Ok.bytes.ok in omega (arith, few, ok))) t) c.tell_bytes.ensures.tells

pub returns-in-Ok-clause-fails : goal.returns-in-Ok-clause-fails
returns-in-Ok-clause-fails g c =
    let old = g.W.Write.contents c.args.out.now in
    let new = g.W.Write.contents c.tell_bytes.new.out in
    let had = g.R.Read.remaining c.args.input.now in
    let left = g.R.Read.remaining c.read_file.new.input in
    let file = c.args.file.now in
    if_err_weaker c.tell_bytes.result (FailsTelling file c.deref.result.now old new) (Fails file had left old new) (λ f t. inr (comes file had left old new c.in-Ok.bytes.items c.deref.result.now f c.deref.ensures.value c.in-Ok.ensures.taken (λ few. c.in-Ok.ensures.end (let ok = c.in-Ok.bytes.ok in omega (arith, few, ok))) t)) c.tell_bytes.ensures.fails
