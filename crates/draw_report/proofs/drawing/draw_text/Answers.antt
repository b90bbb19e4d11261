use Rattle.std.proofs.Common.{◌++◌, List, subst}
use Rattle.facts.specs.declared.fact.Line.{Line}
use Rattle.streams.specs.Leaves.{Leaves}
use Rattle.streams.proofs.Writers.{ends_at_first, then_leaves}
use Rattle.picture.specs.Drawn.{drawn}
use Rattle.draw_report.specs.Served.{foot_text, judged_by}
use Rattle.draw_report.proofs.drawing.draw_text.Goals as goal

pub returns-in_err-draw : goal.returns-in_err-draw
returns-in_err-draw g c =
    let t = c.args.trace.now in
    let f = foot_text (judged_by c.args.outcome.now) in
    subst (λ (ls : List Line). Leaves (g.W.Write.contents c.args.out.now) (g.W.Write.contents c.draw.new.out) c.from_residual.result (drawn c.args.names.now t.head.threads t.head.mutexes ls t.last ++ f)) c.as_slice-lines.ensures.value
    (ends_at_first _ _ c.from_residual.result (drawn c.args.names.now t.head.threads t.head.mutexes c.as_slice-lines.result.now t.last) f c.from_residual.ensures.0 c.in_err-draw.ensures)

pub returns : goal.returns
returns g c =
    let t = c.args.trace.now in
    let f = foot_text (judged_by c.args.outcome.now) in
    subst (λ (ls : List Line). Leaves (g.W.Write.contents c.args.out.now) (g.W.Write.contents c.write_foot.new.out) c.write_foot.result (drawn c.args.names.now t.head.threads t.head.mutexes ls t.last ++ f)) c.as_slice-lines.ensures.value
    (then_leaves _ _ _ c.write_foot.result (drawn c.args.names.now t.head.threads t.head.mutexes c.as_slice-lines.result.now t.last) f c.in_ok-draw.ensures c.write_foot.ensures)
