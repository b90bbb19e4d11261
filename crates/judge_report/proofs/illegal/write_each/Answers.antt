use Rattle.std.proofs.Common.{◌++◌}
use Rattle.streams.proofs.Writers.{ends_at_first, ends_at_second, then_leaves}
use Rattle.judge_report.specs.Texts.{entry_thread, first_text, here_text, ors_text}
use Rattle.judge_report.proofs.illegal.write_each.Goals as goal

pub returns-in_err-write_first : goal.returns-in_err-write_first
returns-in_err-write_first g c =
    let first = first_text (entry_thread c.args.line.now.entry) c.args.first in
    ends_at_first _ _ c.from_residual.result first (ors_text c.args.others.now ++ here_text) c.from_residual.ensures.0 c.in_err-write_first.ensures

pub returns-in_err-write_ors : goal.returns-in_err-write_ors
returns-in_err-write_ors g c =
    let first = first_text (entry_thread c.args.line.now.entry) c.args.first in
    ends_at_second _ _ _ c.from_residual-in_err-write_ors.result first (ors_text c.args.others.now) here_text c.from_residual-in_err-write_ors.ensures.0 c.in_ok-write_first.ensures c.in_err-write_ors.ensures

pub returns : goal.returns
returns g c =
    let first = first_text (entry_thread c.args.line.now.entry) c.args.first in
    then_leaves _ _ _ c.write_here.result first (ors_text c.args.others.now ++ here_text) c.in_ok-write_first.ensures
    (then_leaves _ _ _ c.write_here.result (ors_text c.args.others.now) here_text c.in_ok-write_ors.ensures c.write_here.ensures)
