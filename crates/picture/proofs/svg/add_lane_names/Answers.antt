use Rattle.std.specs.Prelude.{string_bytes}
use Rattle.picture.specs.Svg.{svg_lane_behind}
use Rattle.picture.proofs.Columns.{one_further}
use Rattle.picture.proofs.svg.add_lane_names.Goals as goal

pub loop-index-preserved : goal.loop-index-preserved
loop-index-preserved c = one_further (svg_lane_behind c.args.sheet.now.names.now c.args.sheet.now.extent c.args.bottom) (string_bytes c.args.text.now) (string_bytes c.loop-index.text) (string_bytes c.add_lane_name.new.text) c.loop-index.index c.loop-index.invariant c.in_ok-add_lane_name.ensures
