use Rattle.std.proofs.Common.{◌+◌, ◌-◌, ap, ◌∙◌}
use Rattle.std.specs.Prelude.{decimal, string_bytes}
use Rattle.picture.specs.Places.{row_y}
use Rattle.picture.specs.Svg.{misfit_shape}
use Rattle.picture.proofs.Columns.{told_as}
use Rattle.picture.proofs.svg.add_misfit_row.Goals as goal

pub returns : goal.returns
returns c =
    let top = decimal (row_y (c.args.line - 1) - 9) in
    told_as c.add.result (string_bytes c.args.text.now) (string_bytes c.add.new.text) _ _
    (ap (λ t. misfit_shape t c.format-row.result.now) (c.format-top.ensures.text ∙ ap (λ y. decimal (y - 9)) c.row_y.ensures.value ∙ ap (λ k. decimal (row_y k - 9)) c.saturating_sub.ensures)
    ∙ ap (λ f. misfit_shape top f) (c.format-row.ensures.text ∙ ap (λ y. decimal (y + 33)) c.row_y-2.ensures.value))
    c.add.ensures
