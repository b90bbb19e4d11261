use Rattle.std.proofs.Common.{◌≡◌, ◌+◌, drop, sym, ap, subst, ◌∙◌}
use Rattle.std.proofs.lemmas.List.{take_rest}
use Rattle.std.specs.Io.KnownBytes.{Appends}
use Rattle.streams.specs.Leaves.{AppendsFront}
use Rattle.picture.specs.declared.scene.Scene.{Scene}
use Rattle.picture.specs.Drawn.{rows_text}
use Rattle.picture.specs.Rows.{row_text}
use Rattle.picture.specs.Scenes.{behind, first_scene}
use Rattle.picture.proofs.Going.{Sofar, goes_on, row_next, stops}
use Rattle.picture.proofs.drawing.write_rows.Goals as goal

pub returns-in_err-write_row : goal.returns-in_err-write_row
returns-in_err-write_row g c =
    let n = c.args.sheet.now.names.now in
    let x = c.args.sheet.now.extent in
    let ls = c.args.lines.now in
    let i = c.loop-index.index in
    let s = c.loop-index.scene in
    let l = c.index-lines-index.result in
    let before = g.W.Write.contents c.loop-index.out in
    let after = g.W.Write.contents c.write_row.new.out in
    let next = behind x.bands s l (drop i ls) in
    let same : c.behind-scene.result ≡ next = c.behind-scene.ensures ∙ ap (behind x.bands s l) (take_rest ls i) in
    stops (g.W.Write.contents c.args.out.now) before after c.from_residual.result (rows_text n x first_scene ls) (rows_text n x s (drop i ls)) (row_text n x next l) (rows_text n x next (drop (i + 1) ls)) c.from_residual.ensures.0 c.loop-index.invariant (row_next n x s ls i l c.loop-index-test.true c.index-lines-index.is)
    (subst (λ (z : Scene). AppendsFront before after (row_text n x z l)) same c.in_err-write_row.ensures)

pub loop-index-preserved : goal.loop-index-preserved
loop-index-preserved g c =
    let n = c.args.sheet.now.names.now in
    let x = c.args.sheet.now.extent in
    let ls = c.args.lines.now in
    let i = c.loop-index.index in
    let s = c.loop-index.scene in
    let l = c.index-lines-index.result in
    let start = g.W.Write.contents c.args.out.now in
    let before = g.W.Write.contents c.loop-index.out in
    let after = g.W.Write.contents c.write_row.new.out in
    let next = behind x.bands s l (drop i ls) in
    let same : c.behind-scene.result ≡ next = c.behind-scene.ensures ∙ ap (behind x.bands s l) (take_rest ls i) in
    let so_far = goes_on start before after (rows_text n x first_scene ls) (rows_text n x s (drop i ls)) (row_text n x next l) (rows_text n x next (drop (i + 1) ls)) c.loop-index.invariant (row_next n x s ls i l c.loop-index-test.true c.index-lines-index.is)
    (subst (λ (z : Scene). Appends before after (row_text n x z l)) same c.in_ok-write_row.ensures) in
    subst (λ (z : Scene). Sofar start after (rows_text n x first_scene ls) (rows_text n x z (drop (i + 1) ls))) (sym same) so_far
