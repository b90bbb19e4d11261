use Rattle.std.proofs.Common.{◌+◌, map, ap}
use Rattle.std.specs.Prelude.{string_bytes}
use Rattle.picture.specs.Rows.{cell, cell_at}
use Rattle.picture.specs.Scenes.{lane_at}
use Rattle.picture.proofs.Columns.{once_further}
use Rattle.picture.proofs.rows.add_cells.Goals as goal

pub loop-index-preserved : goal.loop-index-preserved
loop-index-preserved c =
    let r = c.args.row.now in
    let lanes = c.args.lanes.now in
    let i = c.loop-index.index in
    once_further (cell_at r.extent r.thread r.from r.sign.now (map (λ w. w.now) r.words.now) lanes) (string_bytes c.args.text.now) (string_bytes c.loop-index.text) (string_bytes c.add_cell.new.text) _ i c.loop-index.invariant c.in_ok-add_cell.ensures
    (ap (λ k. cell r.extent r.thread r.from r.sign.now (map (λ w. w.now) r.words.now) (lane_at lanes (k + 1)) (i + 1)) c.from.ensures)
