use Rattle.std.proofs.Common.{◌+◌, ◌++◌, length, ap}
use Rattle.std.specs.Prelude.{codes, string_bytes}
use Rattle.picture.proofs.Columns.{then_text, told_as}
use Rattle.page.specs.Data.{illegal_end, illegal_start, misfit_line}
use Rattle.page.specs.Escapes.{escaped}
use Rattle.page.proofs.data.add_history_illegal.Goals as goal

pub returns : goal.returns
returns c =
    let ls = c.args.lines.now in
    let a = string_bytes c.args.text.now in
    let one = string_bytes c.add_illegal_start.new.text in
    let two = string_bytes c.add_escaped.new.text in
    let all = string_bytes c.add_illegal_end.new.text in
    let start = illegal_start (codes "illegal history") c.args.last (length ls) (length ls + 1) in
    let last = illegal_end (misfit_line ls (length ls + 1)) in
    let why = escaped c.args.why.now in
    then_text c.add_illegal_end.result a one all start (why ++ last) c.in_ok-add_illegal_start.ensures
    (then_text c.add_illegal_end.result one two all why last c.in_ok-add_escaped.ensures (told_as c.add_illegal_end.result two all _ _ (ap illegal_end c.misfit_line-line.ensures) c.add_illegal_end.ensures))
