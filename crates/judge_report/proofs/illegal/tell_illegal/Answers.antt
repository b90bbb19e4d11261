use Rattle.std.proofs.Common.{◌++◌}
use Rattle.streams.proofs.Writers.{ends_at_first, ends_at_second, then_leaves}
use Rattle.judge_report.specs.Texts.{illegal_notes, illegal_title, quote}
use Rattle.judge_report.proofs.illegal.tell_illegal.Goals as goal

pub returns-in_err-write_title : goal.returns-in_err-write_title
returns-in_err-write_title g c =
    let l = c.args.line.now in
    let why = c.args.why.now in
    let notes = illegal_notes c.args.lines.now l why c.args.possible.now in
    ends_at_first _ _ c.from_residual.result (illegal_title l why) (quote l ++ notes) c.from_residual.ensures.0 c.in_err-write_title.ensures

pub returns-in_err-write_quote : goal.returns-in_err-write_quote
returns-in_err-write_quote g c =
    let l = c.args.line.now in
    let why = c.args.why.now in
    let notes = illegal_notes c.args.lines.now l why c.args.possible.now in
    ends_at_second _ _ _ c.from_residual-in_err-write_quote.result (illegal_title l why) (quote l) notes c.from_residual-in_err-write_quote.ensures.0 c.in_ok-write_title.ensures c.in_err-write_quote.ensures

pub returns : goal.returns
returns g c =
    let l = c.args.line.now in
    let why = c.args.why.now in
    let notes = illegal_notes c.args.lines.now l why c.args.possible.now in
    then_leaves _ _ _ c.write_notes.result (illegal_title l why) (quote l ++ notes) c.in_ok-write_title.ensures
    (then_leaves _ _ _ c.write_notes.result (quote l) notes c.in_ok-write_quote.ensures c.write_notes.ensures)
