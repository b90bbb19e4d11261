use Rattle.std.proofs.Common.{ap, ◌∙◌}
use Rattle.std.specs.Prelude.{string_bytes}
use Rattle.picture.specs.Rows.{row_of, sign}
use Rattle.picture.specs.Scenes.{lane_at}
use Rattle.picture.specs.Words.{words}
use Rattle.picture.proofs.Columns.{same_in, told_as}
use Rattle.picture.proofs.rows.add_row.Goals as goal

pub returns : goal.returns
returns c =
    let s = c.args.scene.now in
    let l = c.args.line.now in
    told_as c.add_row_of.result (string_bytes c.args.text.now) (string_bytes c.add_row_of.new.text) _ _
    (same_in (row_of c.args.sheet.now.names.now c.args.sheet.now.extent s l.event) _ _ _ _ _ _ _ _ (c.get-2.ensures.value ∙ c.thread-thread.ensures) c.arrow_from-from.ensures (c.sign.ensures ∙ ap (sign l.fact) c.arrow_from-from.ensures)
    (c.words-words.ensures ∙ ap (λ i. words c.args.sheet.now.names.now (lane_at s.lanes i) l.fact) (c.from.ensures ∙ c.get.ensures.value ∙ c.thread-thread.ensures)))
    c.add_row_of.ensures
