use Rattle.std.proofs.Common.{◌+◌, ◌++◌, ap}
use Rattle.std.specs.Prelude.{string_bytes}
use Rattle.picture.specs.Places.{row_y}
use Rattle.picture.specs.Svg.{marked_of, svg_bands, svg_lanes, svg_open}
use Rattle.picture.proofs.Columns.{then_text, told_as}
use Rattle.picture.proofs.svg.add_svg_heads.Goals as goal

pub returns : goal.returns
returns c =
    let n = c.args.sheet.now.names.now in
    let x = c.args.sheet.now.extent in
    let one = string_bytes c.add_open.new.text in
    let two = string_bytes c.add_band_names.new.text in
    let all = string_bytes c.add_lane_names.new.text in
    let lanes = svg_lanes n x (row_y c.args.lines + 18) in
    then_text c.add_lane_names.result (string_bytes c.args.text.now) one all (svg_open x (marked_of c.args.misfit) c.args.lines) (svg_bands n x ++ lanes) c.in_ok-add_open.ensures
    (then_text c.add_lane_names.result one two all (svg_bands n x) lanes c.in_ok-add_band_names.ensures
    (told_as c.add_lane_names.result two all _ _ (ap (λ y. svg_lanes n x (y + 18)) c.row_y.ensures.value) c.add_lane_names.ensures))
