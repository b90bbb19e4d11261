use Rattle.std.proofs.Common.{◌++◌, [], ◌∷◌, ap, ◌∙◌}
use Rattle.std.specs.Prelude.{codes, decimal, string_bytes}
use Rattle.std.specs.List.{concat}
use Rattle.picture.specs.Shapes.{name_at}
use Rattle.picture.proofs.Columns.{then_text}
use Rattle.picture.proofs.shapes.add_name.Goals as goal

pub returns : goal.returns
returns c =
    let old = string_bytes c.args.text.now in
    let one = string_bytes c.add.new.text in
    let all = string_bytes c.add-2.new.text in
    let l = c.args.label in
    let first = c.in_ok-add.ensures ∙ ap (λ m. old ++ name_at m c.format-row.result.now) c.format-middle.ensures.text ∙ ap (λ y. old ++ name_at (decimal c.args.middle) y) c.format-row.ensures.text in
    then_text c.add-2.result old one all (name_at (decimal c.args.middle) (decimal c.args.y)) (concat (l.head.now ∷ l.tail.now ∷ codes "</text>" ∷ [])) first c.add-2.ensures
