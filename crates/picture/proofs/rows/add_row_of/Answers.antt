use Rattle.std.proofs.Common.{◌++◌, map}
use Rattle.std.specs.Prelude.{codes, string_bytes}
use Rattle.picture.specs.Rows.{bands_text, cells, event_text, tail}
use Rattle.picture.proofs.Columns.{then_text}
use Rattle.picture.proofs.rows.add_row_of.Goals as goal

pub returns : goal.returns
returns c =
    let r = c.args.row.now in
    let ws = map (λ w. w.now) r.words.now in
    let old = string_bytes c.args.text.now in
    let one = string_bytes c.add_event.new.text in
    let two = string_bytes c.add_bands.new.text in
    let three = string_bytes c.add_cells.new.text in
    let four = string_bytes c.add_tail.new.text in
    let all = string_bytes c.add.new.text in
    let owners = bands_text c.args.names.now r.extent c.args.scene.now.objects in
    let lanes = cells r.extent r.thread r.from r.sign.now ws c.args.scene.now.lanes in
    let last = tail c.args.names.now r.extent r.thread ws in
    then_text c.add.result old one all (event_text c.args.event) (owners ++ (lanes ++ (last ++ codes "\n"))) c.in_ok-add_event.ensures
    (then_text c.add.result one two all owners (lanes ++ (last ++ codes "\n")) c.in_ok-add_bands.ensures
    (then_text c.add.result two three all lanes (last ++ codes "\n") c.in_ok-add_cells.ensures
    (then_text c.add.result three four all last (codes "\n") c.in_ok-add_tail.ensures c.add.ensures)))
