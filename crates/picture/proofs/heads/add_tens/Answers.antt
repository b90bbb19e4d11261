use Rattle.std.proofs.Common.{◌+◌, ap}
use Rattle.std.specs.List.{repeat}
use Rattle.std.specs.Prelude.{codes, string_bytes}
use Rattle.picture.specs.Heads.{ten, ten_sign}
use Rattle.picture.specs.Layouts.{gap}
use Rattle.picture.proofs.Columns.{one_further, sign_and}
use Rattle.picture.proofs.heads.add_tens.Goals as goal

pub loop-index-preserved : goal.loop-index-preserved
loop-index-preserved c =
    let lane = c.loop-index.index + 1 in
    one_further (ten c.args.extent.now) (string_bytes c.args.text.now) (string_bytes c.loop-index.text) (string_bytes c.fill.new.text) c.loop-index.index c.loop-index.invariant
    (sign_and (string_bytes c.loop-index.text) (string_bytes c.add.new.text) (string_bytes c.fill.new.text) c.ten_sign.result.now (ten_sign lane) (repeat c.gap.result (codes " ")) (repeat (gap c.args.extent.now lane) (codes " "))
    c.in_ok-add.ensures c.ten_sign.ensures c.in_ok-fill.ensures (ap (λ n. repeat n (codes " ")) c.gap.ensures))
