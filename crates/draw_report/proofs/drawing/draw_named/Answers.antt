use Rattle.std.proofs.Common.{subst}
use Rattle.picture.specs.Names.{Called}
use Rattle.draw_report.specs.Served.{LeavesPicture, judged_by, picture}
use Rattle.draw_report.proofs.drawing.draw_named.Goals as goal

pub returns-in-Ok-clause-text : goal.returns-in-Ok-clause-text
returns-in-Ok-clause-text g c = subst (λ (n : Called). LeavesPicture c.args.kind (picture c.args.kind n c.args.trace.now (judged_by c.args.outcome.now)) (g.W.Write.contents c.args.out.now) (g.W.Write.contents c.draw_out.new.out) c.draw_out.result) c.in-Ok.ensures c.draw_out.ensures.text
