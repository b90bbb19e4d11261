use Rattle.std.proofs.Common.{map, ap, ◌∙◌}
use Rattle.std.specs.Prelude.{string_bytes}
use Rattle.picture.specs.Rows.{from_at}
use Rattle.picture.specs.Scenes.{lane_at}
use Rattle.picture.specs.Svg.{marks_of}
use Rattle.picture.specs.Words.{words}
use Rattle.picture.proofs.Columns.{told_as}
use Rattle.picture.proofs.svg.add_line.Goals as goal

pub returns : goal.returns
returns c =
    let x = c.args.sheet.now.extent in
    let s = c.args.scene.now in
    let l = c.args.line.now in
    let k = c.args.number in
    told_as c.add_marks.result (string_bytes c.args.text.now) (string_bytes c.add_marks.new.text) _ _
    (ap (λ f. marks_of x l.fact l.event f (map (λ w. w.now) c.words-words.result) k) c.arrow_from-from.ensures
    ∙ ap (λ ws. marks_of x l.fact l.event (from_at s l) ws k) (c.words-words.ensures ∙ ap (λ i. words c.args.sheet.now.names.now (lane_at s.lanes i) l.fact) (c.from.ensures ∙ c.get-thread.ensures.value ∙ c.thread.ensures)))
    c.add_marks.ensures
