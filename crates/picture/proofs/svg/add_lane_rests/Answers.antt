use Rattle.std.proofs.Common.{◌+◌, ap, ◌∙◌}
use Rattle.std.specs.Prelude.{string_bytes, slice_index_or}
use Rattle.picture.specs.Scenes.{lane_at}
use Rattle.picture.specs.Shapes.{lane_shape}
use Rattle.picture.specs.Svg.{lane_rest}
use Rattle.picture.proofs.Columns.{once_further}
use Rattle.picture.proofs.svg.add_lane_rests.Goals as goal

pub loop-index-preserved : goal.loop-index-preserved
loop-index-preserved c =
    let lanes = c.args.scene.now.lanes in
    let since = c.args.since.now.lanes in
    let i = c.loop-index.index in
    once_further (lane_rest c.args.extent.now lanes since c.args.line) (string_bytes c.args.text.now) (string_bytes c.loop-index.text) (string_bytes c.add_lane.new.text) _ i c.loop-index.invariant c.in_ok-add_lane.ensures
    (ap (λ k. lane_shape (lane_at lanes (k + 1)) c.lane_x.result (slice_index_or since (k + 1) 0) c.args.line) c.from-at.ensures ∙ ap (λ x. lane_shape (lane_at lanes (i + 1)) x (slice_index_or since (i + 1) 0) c.args.line) c.lane_x.ensures.value)
