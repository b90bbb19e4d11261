use Rattle.std.proofs.Common.{ap, ◌∙◌}
use Rattle.std.specs.Prelude.{decimal, string_bytes}
use Rattle.picture.proofs.Columns.{told_as}
use Rattle.page.specs.Data.{illegal_with}
use Rattle.page.proofs.data.add_illegal_start.Goals as goal

pub returns : goal.returns
returns c =
    told_as c.add.result (string_bytes c.args.text.now) (string_bytes c.add.new.text) _ _
    (ap (λ l. illegal_with c.args.word.now l c.format-count.result.now c.format-number.result.now) c.format-last.ensures.text
    ∙ ap (λ l. illegal_with c.args.word.now (decimal c.args.last) l c.format-number.result.now) c.format-count.ensures.text
    ∙ ap (λ l. illegal_with c.args.word.now (decimal c.args.last) (decimal c.args.lines) l) c.format-number.ensures.text)
    c.add.ensures
