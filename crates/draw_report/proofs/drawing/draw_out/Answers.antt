use Rattle.streams.proofs.Writers.{Appends-kept}
use Rattle.draw_report.specs.Served.{judged_by, picture}
use Rattle.draw_report.proofs.Ends.{begun_kept}
use Rattle.draw_report.proofs.drawing.draw_out.Goals as goal

pub returns-in-Ok-let_go-clause-text : goal.returns-in-Ok-let_go-clause-text
returns-in-Ok-let_go-clause-text g c =
    let old = g.W.Write.contents c.args.out.now in
    let drawn = g.W.Write.contents c.draw_as.new.out in
    let new = g.W.Write.contents c.let_go.new.self in
    Appends-kept old drawn new (picture c.args.kind c.args.names.now c.args.trace.now (judged_by c.args.outcome.now)) c.in-Ok.ensures c.let_go.ensures.kept

pub returns-in-Err-let_go-clause-text : goal.returns-in-Err-let_go-clause-text
returns-in-Err-let_go-clause-text g c =
    let old = g.W.Write.contents c.args.out.now in
    let drawn = g.W.Write.contents c.draw_as.new.out in
    let new = g.W.Write.contents c.let_go.new.self in
    begun_kept c.args.kind (picture c.args.kind c.args.names.now c.args.trace.now (judged_by c.args.outcome.now)) old drawn new c.in-Ok.ensures c.let_go.ensures.kept
