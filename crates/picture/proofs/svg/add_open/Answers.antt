use Rattle.std.proofs.Common.{◌+◌, ap, ◌∙◌}
use Rattle.std.specs.Prelude.{decimal, string_bytes}
use Rattle.picture.specs.Svg.{marked_of, svg_height, svg_tag, svg_width}
use Rattle.picture.proofs.Columns.{told_as}
use Rattle.picture.proofs.svg.add_open.Goals as goal

pub returns : goal.returns
returns c =
    let x = c.args.extent.now in
    let wide = decimal (svg_width x (marked_of c.args.misfit)) in
    let high = decimal (svg_height c.args.lines) in
    told_as c.add.result (string_bytes c.args.text.now) (string_bytes c.add.new.text) _ _
    (ap (λ w. svg_tag w c.format-height.result.now c.style.result.now) (c.format-width.ensures.text ∙ ap (λ n. decimal n) c.svg_width.ensures)
    ∙ ap (λ h. svg_tag wide h c.style.result.now) (c.format-height.ensures.text ∙ ap (λ n. decimal (n + 36)) c.row_y.ensures.value)
    ∙ ap (λ s. svg_tag wide high s) c.style.ensures)
    c.add.ensures
