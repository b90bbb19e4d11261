use Rattle.std.proofs.Common.{◌++◌, List, ap, ◌∙◌}
use Rattle.facts.specs.declared.fact.Line.{Line}
use Rattle.picture.specs.Svg.{svg_drawn}
use Rattle.page.proofs.html.picture_of.Goals as goal

pub returns : goal.returns
returns c =
    let n = c.args.names.now in
    let t = c.args.trace.now in
    c.in_ok-draw_svg.ensures
    ∙ ap (λ l. l ++ svg_drawn n t.head.threads t.head.mutexes c.as_slice-lines.result.now t.last) c.new-held.ensures.items
    ∙ ap (λ (ls : List Line). svg_drawn n t.head.threads t.head.mutexes ls t.last) c.as_slice-lines.ensures.value
