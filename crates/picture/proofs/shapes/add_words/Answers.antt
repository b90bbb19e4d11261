use Rattle.std.proofs.Common.{◌++◌, map, ap, ◌∙◌}
use Rattle.std.specs.Prelude.{codes, decimal, string_bytes}
use Rattle.std.specs.List.{concat}
use Rattle.picture.specs.Places.{words_x}
use Rattle.picture.specs.Shapes.{words_at_pixel, words_y}
use Rattle.picture.proofs.Columns.{then_text}
use Rattle.picture.proofs.shapes.add_words.Goals as goal

pub returns : goal.returns
returns c =
    let old = string_bytes c.args.text.now in
    let y = decimal (words_y c.args.line c.args.is_above) in
    let texts = concat (map (λ w. w.now) c.args.words.now) in
    let first = c.in_ok-add.ensures ∙ ap (λ l. old ++ words_at_pixel l c.format-row.result.now) (c.format-left.ensures.text ∙ ap decimal c.words_x.ensures) ∙ ap (λ d. old ++ words_at_pixel (decimal (words_x c.args.middle)) d) (c.format-row.ensures.text ∙ ap decimal c.words_y.ensures) in
    then_text c.add-3.result old (string_bytes c.add.new.text) (string_bytes c.add-3.new.text) (words_at_pixel (decimal (words_x c.args.middle)) y) (texts ++ codes "</text>\n") first
    (then_text c.add-3.result (string_bytes c.add.new.text) (string_bytes c.add-2.new.text) (string_bytes c.add-3.new.text) texts (codes "</text>\n") c.in_ok-add-2.ensures c.add-3.ensures)
