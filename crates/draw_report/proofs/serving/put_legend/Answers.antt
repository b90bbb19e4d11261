use Rattle.std.proofs.Common.{ap, subst}
use Rattle.std.specs.List.{concat}
use Rattle.std.specs.Io.KnownBytes.{Appends}
use Rattle.streams.specs.Leaves.{AppendsFront, Leaves}
use Rattle.streams.proofs.Writers.{ends_at_first, then_leaves}
use Rattle.draw_report.specs.Legend.{lanes_legend, marks_legend}
use Rattle.draw_report.proofs.serving.put_legend.Goals as goal

pub returns-in_err-put : goal.returns-in_err-put
returns-in_err-put g c =
    let old = g.W.Write.contents c.args.out.now in
    let new = g.W.Write.contents c.put.new.out in
    ends_at_first old new c.from_residual.result (concat marks_legend) (concat lanes_legend) c.from_residual.ensures.0
    (subst (AppendsFront old new) (ap concat c.marks_legend.ensures) c.in_err-put.ensures)

pub returns : goal.returns
returns g c =
    let old = g.W.Write.contents c.args.out.now in
    let mid = g.W.Write.contents c.put.new.out in
    let new = g.W.Write.contents c.put-2.new.out in
    then_leaves old mid new c.put-2.result (concat marks_legend) (concat lanes_legend)
    (subst (Appends old mid) (ap concat c.marks_legend.ensures) c.in_ok-put.ensures)
    (subst (Leaves mid new c.put-2.result) (ap concat c.lanes_legend.ensures) c.put-2.ensures)
