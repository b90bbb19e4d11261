use Rattle.std.proofs.Common.{◌≡◌, ◌++◌, length, ap, subst}
use Rattle.streams.specs.Leaves.{Leaves}
use Rattle.streams.proofs.Writers.{ends_at_first, ends_at_second, front_after, front_of, leaves_front, then_leaves}
use Rattle.picture.specs.declared.bands.Extent.{Extent}
use Rattle.picture.specs.Svg.{end_text, first_since, marked_of, marks, parts, svg_heads, svg_marked, svg_with}
use Rattle.picture.specs.Scenes.{first_scene}
use Rattle.picture.proofs.svg_drawing.draw_svg_marked.Goals as goal

pub returns : goal.returns
returns g c =
    let n = c.args.names.now in
    let x = c.of-extent.result in
    let ls = c.args.lines.now in
    let last = c.args.last in
    let a = g.W.Write.contents c.args.out.now in
    let one = g.W.Write.contents c.write_svg_heads.new.out in
    let two = g.W.Write.contents c.write_parts.new.out in
    let three = g.W.Write.contents c.write_marks.new.out in
    let all = g.W.Write.contents c.write_end.new.out in
    let r = c.write_end.result in
    let below = parts n x first_scene first_since 1 ls in
    let over = marks n x first_scene 1 ls in
    let foot = end_text (marked_of c.args.misfit) last (length ls) in
    let same : svg_with n x ls last (marked_of c.args.misfit) ≡ svg_marked n c.args.threads c.args.mutexes ls last (marked_of c.args.misfit) = ap (λ (e : Extent). svg_with n e ls last (marked_of c.args.misfit)) c.of-extent.ensures.value in
    subst (Leaves a all r) same
    (then_leaves a one all r (svg_heads n x (marked_of c.args.misfit) (length ls)) (below ++ (over ++ foot)) c.in_ok-write_svg_heads.ensures
    (then_leaves one two all r below (over ++ foot) c.in_ok-write_parts.ensures
    (then_leaves two three all r over foot c.in_ok-write_marks.ensures c.write_end.ensures)))

pub returns-in_err-write_svg_heads : goal.returns-in_err-write_svg_heads
returns-in_err-write_svg_heads g c =
    let n = c.args.names.now in
    let x = c.of-extent.result in
    let ls = c.args.lines.now in
    let last = c.args.last in
    let a = g.W.Write.contents c.args.out.now in
    let one = g.W.Write.contents c.write_svg_heads.new.out in
    let r = c.from_residual-in_err-write_svg_heads.result in
    let same : svg_with n x ls last (marked_of c.args.misfit) ≡ svg_marked n c.args.threads c.args.mutexes ls last (marked_of c.args.misfit) = ap (λ (e : Extent). svg_with n e ls last (marked_of c.args.misfit)) c.of-extent.ensures.value in
    subst (Leaves a one r) same (ends_at_first a one r (svg_heads n x (marked_of c.args.misfit) (length ls)) (parts n x first_scene first_since 1 ls ++ (marks n x first_scene 1 ls ++ end_text (marked_of c.args.misfit) last (length ls))) c.from_residual-in_err-write_svg_heads.ensures.0 c.in_err-write_svg_heads.ensures)

pub returns-in_err-write_parts : goal.returns-in_err-write_parts
returns-in_err-write_parts g c =
    let n = c.args.names.now in
    let x = c.of-extent.result in
    let ls = c.args.lines.now in
    let last = c.args.last in
    let a = g.W.Write.contents c.args.out.now in
    let one = g.W.Write.contents c.write_svg_heads.new.out in
    let two = g.W.Write.contents c.write_parts.new.out in
    let r = c.from_residual-in_err-write_parts.result in
    let same : svg_with n x ls last (marked_of c.args.misfit) ≡ svg_marked n c.args.threads c.args.mutexes ls last (marked_of c.args.misfit) = ap (λ (e : Extent). svg_with n e ls last (marked_of c.args.misfit)) c.of-extent.ensures.value in
    subst (Leaves a two r) same (ends_at_second a one two r (svg_heads n x (marked_of c.args.misfit) (length ls)) (parts n x first_scene first_since 1 ls) (marks n x first_scene 1 ls ++ end_text (marked_of c.args.misfit) last (length ls)) c.from_residual-in_err-write_parts.ensures.0 c.in_ok-write_svg_heads.ensures c.in_err-write_parts.ensures)

pub returns-in_err-write_marks : goal.returns-in_err-write_marks
returns-in_err-write_marks g c =
    let n = c.args.names.now in
    let x = c.of-extent.result in
    let ls = c.args.lines.now in
    let last = c.args.last in
    let a = g.W.Write.contents c.args.out.now in
    let one = g.W.Write.contents c.write_svg_heads.new.out in
    let two = g.W.Write.contents c.write_parts.new.out in
    let three = g.W.Write.contents c.write_marks.new.out in
    let r = c.from_residual-in_err-write_marks.result in
    let below = parts n x first_scene first_since 1 ls in
    let over = marks n x first_scene 1 ls in
    let foot = end_text (marked_of c.args.misfit) last (length ls) in
    let same : svg_with n x ls last (marked_of c.args.misfit) ≡ svg_marked n c.args.threads c.args.mutexes ls last (marked_of c.args.misfit) = ap (λ (e : Extent). svg_with n e ls last (marked_of c.args.misfit)) c.of-extent.ensures.value in
    subst (Leaves a three r) same
    (leaves_front a three r (svg_heads n x (marked_of c.args.misfit) (length ls) ++ (below ++ (over ++ foot))) c.from_residual-in_err-write_marks.ensures.0
    (front_after a one three (svg_heads n x (marked_of c.args.misfit) (length ls)) (below ++ (over ++ foot)) c.in_ok-write_svg_heads.ensures
    (front_after one two three below (over ++ foot) c.in_ok-write_parts.ensures (front_of two three over foot c.in_err-write_marks.ensures))))
