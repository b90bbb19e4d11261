use Rattle.std.proofs.Common.{◌+◌, ◌-◌, ◌++◌, ap, ◌∙◌}
use Rattle.std.specs.Prelude.{string_bytes}
use Rattle.picture.specs.Places.{band_middle, band_wide, band_x, row_y}
use Rattle.picture.specs.Shapes.{owner_of, rectangle}
use Rattle.picture.proofs.Columns.{then_text, told_as}
use Rattle.picture.proofs.shapes.add_stretch.Goals as goal

pub returns : goal.returns
returns c =
    let n = c.args.sheet.now.names.now in
    let x = c.args.sheet.now.extent in
    let class = c.args.class.now in
    let old = string_bytes c.args.text.now in
    let one = string_bytes c.add_rectangle.new.text in
    let all = string_bytes c.add_owner_of.new.text in
    let left = band_x x c.args.band in
    let top = row_y c.args.from in
    let high = c.saturating_sub-height.result in
    let height = c.saturating_sub-height.ensures ∙ ap (λ k. k - c.row_y-top.result) c.row_y.ensures.value ∙ ap (λ k. row_y c.args.to - k) c.row_y-top.ensures.value in
    let first = c.in_ok-add_rectangle.ensures ∙ ap (λ k. old ++ rectangle class k (c.row_y-top.result - 9) c.band_wide.result high) c.band_x.ensures.value ∙ ap (λ k. old ++ rectangle class left (c.row_y-top.result - 9) k high) c.band_wide.ensures.value ∙ ap (λ y. old ++ rectangle class left (y - 9) (band_wide x) high) c.row_y-top.ensures.value ∙ ap (λ h. old ++ rectangle class left (top - 9) (band_wide x) h) height in
    then_text c.add_owner_of.result old one all (rectangle class left (top - 9) (band_wide x) (row_y c.args.to - top)) (owner_of n c.args.owner (left + band_middle x) top) first
    (told_as c.add_owner_of.result one all _ _ (ap (λ k. owner_of n c.args.owner k c.row_y-top.result) c.band_middle.ensures ∙ ap (λ y. owner_of n c.args.owner (left + band_middle x) y) c.row_y-top.ensures.value) c.add_owner_of.ensures)
