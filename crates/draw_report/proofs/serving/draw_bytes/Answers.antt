use Rattle.std.proofs.Common.{refl, sym, subst, ◌∙◌}
use Rattle.draw_report.specs.Names.{called_by}
use Rattle.draw_report.specs.Served.{FailsDrawing, IsOf, IsPictureOf, OfTrace, picture}
use Rattle.draw_report.proofs.Ends.{draws_not}
use Rattle.draw_report.proofs.serving.draw_bytes.Goals as goal

pub returns-clause-fails : goal.returns-clause-fails
returns-clause-fails g c =
    let s = c.args.script.now in
    let t = c.in-Ok.trace in
    let f = c.in-Ok-explain.finding in
    let old = g.W.Write.contents c.args.out.now in
    let new = g.W.Write.contents c.draw_named.new.out in
    let of : IsOf s c.args.bytes.now t = record { reads = c.in-Ok.ensures.gives; within = c.in-Ok.ensures.within; like = cc } in
    let is : IsPictureOf c.args.kind s c.args.bytes.now (picture c.args.kind (called_by s) t (OfTrace f)) = record { trace = t; of = of; finding = f; judged = c.in-Ok-explain.ensures; is = refl } in
    subst (FailsDrawing c.args.kind s c.args.bytes.now old new) (sym c.undrawn_by.ensures) (draws_not c.args.kind s old new c.args.bytes.now _ c.in-Err-draw_named.unwritten is c.in-Err-draw_named.ensures.text)

pub returns-then-not-is_like-clause-fails : goal.returns-then-not-is_like-clause-fails
returns-then-not-is_like-clause-fails g c = (refl, (c.in-Ok.trace, c.in-Ok.ensures.gives, sym c.is_like.ensures ∙ c.if-not-is_like.true))

pub returns-in-Ok-draw_named-clause-draws : goal.returns-in-Ok-draw_named-clause-draws
returns-in-Ok-draw_named-clause-draws g c =
    let s = c.args.script.now in
    let t = c.in-Ok.trace in
    let f = c.in-Ok-explain.finding in
    let of : IsOf s c.args.bytes.now t = record { reads = c.in-Ok.ensures.gives; within = c.in-Ok.ensures.within; like = cc } in
    let is : IsPictureOf c.args.kind s c.args.bytes.now (picture c.args.kind (called_by s) t (OfTrace f)) = record { trace = t; of = of; finding = f; judged = c.in-Ok-explain.ensures; is = refl } in
    (picture c.args.kind (called_by s) t (OfTrace f), is, c.in-Ok-draw_named.ensures.text)
