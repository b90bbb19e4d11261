use Rattle.std.proofs.Common.{[], ◌≡◌, ◌++◌, ap, subst}
use Rattle.streams.specs.Leaves.{Leaves}
use Rattle.streams.proofs.Writers.{Appends-nil, ends_at_first, ends_at_second, then_leaves}
use Rattle.picture.specs.Drawn.{drawn, drawn_with, rows_text}
use Rattle.picture.proofs.Going.{is_extent}
use Rattle.picture.specs.Heads.{heads}
use Rattle.picture.specs.declared.bands.Extent.{Extent}
use Rattle.picture.specs.Rows.{end_text}
use Rattle.picture.specs.Scenes.{first_scene}
use Rattle.picture.proofs.drawing.draw.Goals as goal

pub returns : goal.returns
returns g c =
    let n = c.args.names.now in
    let x = c.of-extent.result in
    let ls = c.args.lines.now in
    let last = c.args.last in
    let a = g.W.Write.contents c.args.out.now in
    let one = g.W.Write.contents c.write_heads.new.out in
    let two = g.W.Write.contents c.write_rows.new.out in
    let all = g.W.Write.contents c.write_end.new.out in
    let r = c.write_end.result in
    let same : drawn_with n x ls last ≡ drawn n c.args.threads c.args.mutexes ls last = ap (λ (e : Extent). drawn_with n e ls last) (is_extent c.args.threads c.args.mutexes n ls _ _ x c.band_room-room.ensures.value c.min.ensures c.of-extent.ensures.value) in
    subst (Leaves a all r) same
    (then_leaves a one all r (heads n x) (rows_text n x first_scene ls ++ end_text last) c.in_ok-write_heads.ensures
    (then_leaves one two all r (rows_text n x first_scene ls) (end_text last) c.in_ok-write_rows.ensures c.write_end.ensures))

pub returns-in_err-write_heads : goal.returns-in_err-write_heads
returns-in_err-write_heads g c =
    let n = c.args.names.now in
    let x = c.of-extent.result in
    let ls = c.args.lines.now in
    let last = c.args.last in
    let a = g.W.Write.contents c.args.out.now in
    let one = g.W.Write.contents c.write_heads.new.out in
    let r = c.from_residual-in_err-write_heads.result in
    let same : drawn_with n x ls last ≡ drawn n c.args.threads c.args.mutexes ls last = ap (λ (e : Extent). drawn_with n e ls last) (is_extent c.args.threads c.args.mutexes n ls _ _ x c.band_room-room.ensures.value c.min.ensures c.of-extent.ensures.value) in
    subst (Leaves a one r) same (ends_at_first a one r (heads n x) (rows_text n x first_scene ls ++ end_text last) c.from_residual-in_err-write_heads.ensures.0 c.in_err-write_heads.ensures)

pub returns-in_err-write_rows : goal.returns-in_err-write_rows
returns-in_err-write_rows g c =
    let n = c.args.names.now in
    let x = c.of-extent.result in
    let ls = c.args.lines.now in
    let last = c.args.last in
    let a = g.W.Write.contents c.args.out.now in
    let one = g.W.Write.contents c.write_heads.new.out in
    let two = g.W.Write.contents c.write_rows.new.out in
    let r = c.from_residual-in_err-write_rows.result in
    let same : drawn_with n x ls last ≡ drawn n c.args.threads c.args.mutexes ls last = ap (λ (e : Extent). drawn_with n e ls last) (is_extent c.args.threads c.args.mutexes n ls _ _ x c.band_room-room.ensures.value c.min.ensures c.of-extent.ensures.value) in
    subst (Leaves a two r) same (ends_at_second a one two r (heads n x) (rows_text n x first_scene ls) (end_text last) c.from_residual-in_err-write_rows.ensures.0 c.in_ok-write_heads.ensures c.in_err-write_rows.ensures)

pub returns-in_err-row : goal.returns-in_err-row
returns-in_err-row g c =
    let a = g.W.Write.contents c.args.out.now in
    ends_at_first a a c.from_residual.result [] (drawn c.args.names.now c.args.threads c.args.mutexes c.args.lines.now c.args.last) c.from_residual.ensures.0 (0, Appends-nil a)
