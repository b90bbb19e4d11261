use Rattle.std.proofs.Common.{◌≡◌, ◌+◌, drop, sym, ap, subst, ◌∙◌}
use Rattle.std.proofs.lemmas.List.{take_rest}
use Rattle.std.specs.Io.KnownBytes.{Appends}
use Rattle.streams.specs.Leaves.{AppendsFront}
use Rattle.picture.specs.declared.scene.Scene.{Scene}
use Rattle.picture.specs.Svg.{line_marks, marks}
use Rattle.picture.specs.Scenes.{behind, first_scene}
use Rattle.picture.proofs.Going.{Sofar, goes_on, marks_next, stops}
use Rattle.picture.proofs.svg_drawing.write_marks.Goals as goal

pub returns-in_err-write_line : goal.returns-in_err-write_line
returns-in_err-write_line g c =
    let n = c.args.sheet.now.names.now in
    let x = c.args.sheet.now.extent in
    let ls = c.args.lines.now in
    let i = c.loop-index.index in
    let s = c.loop-index.scene in
    let l = c.index-lines-index.result in
    let before = g.W.Write.contents c.loop-index.out in
    let after = g.W.Write.contents c.write_line.new.out in
    let next = behind x.bands s l (drop i ls) in
    let same : c.behind-scene.result ≡ next = c.behind-scene.ensures ∙ ap (behind x.bands s l) (take_rest ls i) in
    stops (g.W.Write.contents c.args.out.now) before after c.from_residual.result (marks n x first_scene 1 ls) (marks n x s (i + 1) (drop i ls)) (line_marks n x next l (i + 1)) (marks n x next (i + 1 + 1) (drop (i + 1) ls)) c.from_residual.ensures.0 c.loop-index.invariant (marks_next n x s (i + 1) ls i l c.loop-index-test.true c.index-lines-index.is)
    (subst (λ (z : Scene). AppendsFront before after (line_marks n x z l (i + 1))) same c.in_err-write_line.ensures)

pub loop-index-preserved : goal.loop-index-preserved
loop-index-preserved g c =
    let n = c.args.sheet.now.names.now in
    let x = c.args.sheet.now.extent in
    let ls = c.args.lines.now in
    let i = c.loop-index.index in
    let s = c.loop-index.scene in
    let l = c.index-lines-index.result in
    let start = g.W.Write.contents c.args.out.now in
    let before = g.W.Write.contents c.loop-index.out in
    let after = g.W.Write.contents c.write_line.new.out in
    let next = behind x.bands s l (drop i ls) in
    let same : c.behind-scene.result ≡ next = c.behind-scene.ensures ∙ ap (behind x.bands s l) (take_rest ls i) in
    let so_far = goes_on start before after (marks n x first_scene 1 ls) (marks n x s (i + 1) (drop i ls)) (line_marks n x next l (i + 1)) (marks n x next (i + 1 + 1) (drop (i + 1) ls)) c.loop-index.invariant (marks_next n x s (i + 1) ls i l c.loop-index-test.true c.index-lines-index.is)
    (subst (λ (z : Scene). Appends before after (line_marks n x z l (i + 1))) same c.in_ok-write_line.ensures) in
    subst (λ (z : Scene). Sofar start after (marks n x first_scene 1 ls) (marks n x z (i + 1 + 1) (drop (i + 1) ls))) (sym same) so_far
