use Rattle.std.proofs.Common.{List, length, ap, subst, ◌∙◌}
use Rattle.facts.specs.declared.fact.Line.{Line}
use Rattle.streams.specs.Leaves.{Leaves}
use Rattle.picture.specs.Svg.{marked_of, svg_marked}
use Rattle.draw_report.specs.Served.{judged_by, mark_in}
use Rattle.draw_report.proofs.Ends.{leaves_svg}
use Rattle.draw_report.proofs.drawing.draw_marked.Goals as goal

pub returns-in-Ok : goal.returns-in-Ok
returns-in-Ok g c =
    let t = c.args.trace.now in
    let n = c.args.names.now in
    let j = judged_by c.args.outcome.now in
    let old = g.W.Write.contents c.args.out.now in
    let new = g.W.Write.contents c.draw_svg_marked.new.out in
    let r = c.draw_svg_marked.result in
    leaves_svg _ old new r
    (subst (Leaves old new r)
    (ap (λ (ls : List Line). svg_marked n t.head.threads t.head.mutexes ls t.last (marked_of c.in-Ok.mark)) c.as_slice-lines.ensures.value
    ∙ ap (svg_marked n t.head.threads t.head.mutexes t.lines.items t.last) (c.in-Ok.ensures.mark ∙ ap (λ k. mark_in k j) (ap length c.as_slice-lines.ensures.value)))
    c.draw_svg_marked.ensures)
