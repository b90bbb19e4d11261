use Rattle.std.proofs.Common.{refl, sym, subst, ◌∙◌}
use Rattle.draw_report.specs.Histories.{FailsHistory, IsHistoryPicture, judged_in}
use Rattle.draw_report.specs.Names.{called_by}
use Rattle.draw_report.specs.Served.{IsUndrawn, Judged, picture}
use Rattle.std.specs.Io.KnownBytes.{Appends}
use Rattle.draw_report.proofs.Ends.{history_not}
use Rattle.draw_report.proofs.Histories.{undrawable}
use Rattle.draw_report.proofs.history.draw_history.Goals as goal

pub returns-in-Err-drawing_of-clause-fails : goal.returns-in-Err-drawing_of-clause-fails
returns-in-Err-drawing_of-clause-fails g c = undrawable c.args.kind c.args.script.now (g.W.Write.contents c.args.out.now) c.args.bytes.now c.in-Ok.history c.in-Err-drawing_of.failure c.in-Ok.ensures.shown c.in-Err-drawing_of.ensures.fails

pub returns-then-not-is_like-clause-fails : goal.returns-then-not-is_like-clause-fails
returns-then-not-is_like-clause-fails g c = (refl, (c.in-Ok.history, c.in-Ok.ensures.shown, c.in-Ok-drawing_of.drawing, c.in-Ok-drawing_of.ensures.drawing, sym c.is_like.ensures ∙ c.if-not-is_like.true))

pub returns-in-Ok-draw_named-clause-draws : goal.returns-in-Ok-draw_named-clause-draws
returns-in-Ok-draw_named-clause-draws g c =
    let s = c.args.script.now in
    let d = c.in-Ok-drawing_of.drawing in
    let is : IsHistoryPicture c.args.kind s c.args.bytes.now (picture c.args.kind (called_by s) d.trace (judged_in d)) = record { history = c.in-Ok.history; shown = c.in-Ok.ensures.shown; fit = c.in-Ok-drawing_of.ensures.fit; drawing = d; of = c.in-Ok-drawing_of.ensures.drawing; like = cc; is = refl } in
    (picture c.args.kind (called_by s) d.trace (judged_in d), is, subst (λ (j : Judged). Appends (g.W.Write.contents c.args.out.now) (g.W.Write.contents c.draw_named.new.out) (picture c.args.kind (called_by s) d.trace j)) c.outcome_of.ensures c.in-Ok-draw_named.ensures.text)

pub returns-clause-fails : goal.returns-clause-fails
returns-clause-fails g c =
    let s = c.args.script.now in
    let d = c.in-Ok-drawing_of.drawing in
    let old = g.W.Write.contents c.args.out.now in
    let new = g.W.Write.contents c.draw_named.new.out in
    let u = c.in-Err-draw_named.unwritten in
    let is : IsHistoryPicture c.args.kind s c.args.bytes.now (picture c.args.kind (called_by s) d.trace (judged_in d)) = record { history = c.in-Ok.history; shown = c.in-Ok.ensures.shown; fit = c.in-Ok-drawing_of.ensures.fit; drawing = d; of = c.in-Ok-drawing_of.ensures.drawing; like = cc; is = refl } in
    subst (FailsHistory c.args.kind s c.args.bytes.now old new) (sym c.undrawn_by.ensures)
    (history_not c.args.kind s old new c.args.bytes.now _ u is (subst (λ (j : Judged). IsUndrawn c.args.kind (picture c.args.kind (called_by s) d.trace j) old new u) c.outcome_of.ensures c.in-Err-draw_named.ensures.text))
