use Rattle.std.proofs.Common.{◌≡◌, ◌+◌, drop, length, sym, ap, subst, ◌∙◌, arith}
use Rattle.std.proofs.lemmas.List.{take_rest}
use Rattle.picture.specs.declared.scene.Scene.{Scene}
use Rattle.picture.specs.declared.svg.Since.{Since}
use Rattle.picture.specs.Svg.{begins_at, first_since, line_parts, parts, rests}
use Rattle.picture.specs.Scenes.{behind, first_scene}
use Rattle.picture.proofs.Going.{Sofar, ends_with, goes_on, parts_end, parts_next, stops}
use Rattle.picture.proofs.svg_drawing.write_parts.Goals as goal

pub returns-in_err-write_line_parts : goal.returns-in_err-write_line_parts
returns-in_err-write_line_parts g c =
    let n = c.args.sheet.now.names.now in
    let x = c.args.sheet.now.extent in
    let ls = c.args.lines.now in
    let i = c.loop-index.index in
    let s = c.loop-index.scene in
    let z = c.loop-index.since in
    let l = c.index-lines-index.result in
    stops (g.W.Write.contents c.args.out.now) (g.W.Write.contents c.loop-index.out) (g.W.Write.contents c.write_line_parts.new.out) c.from_residual.result (parts n x first_scene first_since 1 ls) (parts n x s z (i + 1) (drop i ls)) (line_parts n x s z l.fact (i + 1)) (parts n x (behind x.bands s l (drop i ls)) (begins_at x.bands z l.fact (i + 1)) (i + 1 + 1) (drop (i + 1) ls)) c.from_residual.ensures.0 c.loop-index.invariant (parts_next n x s z (i + 1) ls i l c.loop-index-test.true c.index-lines-index.is) c.in_err-write_line_parts.ensures

pub loop-index-preserved : goal.loop-index-preserved
loop-index-preserved g c =
    let n = c.args.sheet.now.names.now in
    let x = c.args.sheet.now.extent in
    let ls = c.args.lines.now in
    let i = c.loop-index.index in
    let s = c.loop-index.scene in
    let z = c.loop-index.since in
    let l = c.index-lines-index.result in
    let start = g.W.Write.contents c.args.out.now in
    let after = g.W.Write.contents c.write_line_parts.new.out in
    let next = behind x.bands s l (drop i ls) in
    let since = begins_at x.bands z l.fact (i + 1) in
    let same : c.behind-scene.result ≡ next = c.behind-scene.ensures ∙ ap (behind x.bands s l) (take_rest ls i) in
    let so_far = goes_on start (g.W.Write.contents c.loop-index.out) after (parts n x first_scene first_since 1 ls) (parts n x s z (i + 1) (drop i ls)) (line_parts n x s z l.fact (i + 1)) (parts n x next since (i + 1 + 1) (drop (i + 1) ls)) c.loop-index.invariant (parts_next n x s z (i + 1) ls i l c.loop-index-test.true c.index-lines-index.is) c.in_ok-write_line_parts.ensures in
    subst (λ (w : Since). Sofar start after (parts n x first_scene first_since 1 ls) (parts n x c.behind-scene.result w (i + 1 + 1) (drop (i + 1) ls))) (sym c.behind-since.ensures)
    (subst (λ (w : Scene). Sofar start after (parts n x first_scene first_since 1 ls) (parts n x w since (i + 1 + 1) (drop (i + 1) ls))) (sym same) so_far)

pub returns : goal.returns
returns g c =
    let n = c.args.sheet.now.names.now in
    let x = c.args.sheet.now.extent in
    let ls = c.args.lines.now in
    let i = c.loop-index.index in
    let s = c.loop-index.scene in
    let z = c.loop-index.since in
    let all : i ≡ length ls = omega arith in
    let start = g.W.Write.contents c.args.out.now in
    let before = g.W.Write.contents c.loop-index.out in
    let last : parts n x s z (i + 1) (drop i ls) ≡ rests n x s z (length ls + 1) = parts_end n x s z (i + 1) ls i all ∙ ap (λ k. rests n x s z (k + 1)) all in
    ends_with start before (g.W.Write.contents c.write_rests.new.out) c.write_rests.result (parts n x first_scene first_since 1 ls) (rests n x s z (length ls + 1)) (subst (Sofar start before (parts n x first_scene first_since 1 ls)) last c.loop-index.invariant) c.write_rests.ensures
