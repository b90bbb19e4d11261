use Rattle.std.proofs.Common.{sym, subst}
use Rattle.draw_report.specs.declared.asking.Kind.{Kind}
use Rattle.draw_report.specs.Served.{LeavesPicture, judged_by, picture}
use Rattle.draw_report.proofs.Ends.{leaves_text}
use Rattle.draw_report.proofs.drawing.draw_as.Goals as goal

pub returns-in-Text : goal.returns-in-Text
returns-in-Text g c =
    let old = g.W.Write.contents c.args.out.now in
    let new = g.W.Write.contents c.draw_text.new.out in
    subst (λ (k : Kind). LeavesPicture k (picture k c.args.names.now c.args.trace.now (judged_by c.args.outcome.now)) old new c.draw_text.result) (sym c.in-Text.is) (leaves_text _ old new c.draw_text.result c.draw_text.ensures)

pub returns-in-Svg : goal.returns-in-Svg
returns-in-Svg g c =
    let old = g.W.Write.contents c.args.out.now in
    let new = g.W.Write.contents c.draw_marked.new.out in
    subst (λ (k : Kind). LeavesPicture k (picture k c.args.names.now c.args.trace.now (judged_by c.args.outcome.now)) old new c.draw_marked.result) (sym c.in-Svg.is) c.draw_marked.ensures

pub returns-in-Html : goal.returns-in-Html
returns-in-Html g c =
    let old = g.W.Write.contents c.args.out.now in
    let new = g.W.Write.contents c.draw_page.new.out in
    subst (λ (k : Kind). LeavesPicture k (picture k c.args.names.now c.args.trace.now (judged_by c.args.outcome.now)) old new c.draw_page.result) (sym c.in-Html.is) c.draw_page.ensures
