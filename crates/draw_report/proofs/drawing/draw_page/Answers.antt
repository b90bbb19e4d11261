use Rattle.std.proofs.Common.{sym, subst}
use Rattle.draw_report.specs.declared.asking.Kind.TheVariants.{Html}
use Rattle.draw_report.specs.declared.drawing.Outcome.{Outcome}
use Rattle.draw_report.specs.Served.{LeavesPicture, judged_by, picture}
use Rattle.draw_report.proofs.Ends.{leaves_page}
use Rattle.draw_report.proofs.drawing.draw_page.Goals as goal

pub returns-in-Trace : goal.returns-in-Trace
returns-in-Trace g c =
    let old = g.W.Write.contents c.args.out.now in
    let new = g.W.Write.contents c.write_page.new.out in
    subst (λ (o : Outcome). LeavesPicture Html (picture Html c.args.names.now c.args.trace.now (judged_by o)) old new c.write_page.result) (sym c.in-Trace.is) (leaves_page _ old new c.write_page.result c.write_page.ensures)

pub returns-in-History : goal.returns-in-History
returns-in-History g c =
    let old = g.W.Write.contents c.args.out.now in
    let new = g.W.Write.contents c.write_history_page.new.out in
    subst (λ (o : Outcome). LeavesPicture Html (picture Html c.args.names.now c.args.trace.now (judged_by o)) old new c.write_history_page.result) (sym c.in-History.is) (leaves_page _ old new c.write_history_page.result c.write_history_page.ensures)
