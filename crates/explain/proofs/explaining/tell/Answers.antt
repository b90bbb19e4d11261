use Rattle.std.proofs.Common.{◌≡◌}
use Rattle.explain.specs.Explains.{IsTold, status_of}
use Rattle.explain.specs.Stray.{lines_in}
use Rattle.explain.specs.Texts.{explanation_text}
use Rattle.explain.proofs.Titles.{if_ok_both}
use Rattle.explain.proofs.explaining.tell.Goals as goal

pub returns-in-Ok : goal.returns-in-Ok
returns-in-Ok c =
    let x = c.in-Ok.explanation in
    if_ok_both c.tell_explanation.result (λ t. t.text.items ≡ explanation_text c.args.file.now (lines_in c.args.bytes.now) x) (λ t. t.status ≡ status_of x.title) (λ t. IsTold c.args.file.now c.args.bytes.now t.text.items t.status) (λ t h s. (x, (record { kind = c.in-Ok.ensures.kind; title = c.in-Ok.ensures.title; advised = c.in-Ok.ensures.advised }, (h, s)))) c.tell_explanation.ensures.text c.tell_explanation.ensures.status
