use Rattle.std.proofs.Common.{◌++◌}
use Rattle.streams.proofs.Writers.{ends_at_first, then_leaves}
use Rattle.judge_report.specs.Texts.{earlier_note}
use Rattle.judge_report.proofs.evidence.write_replies.Goals as goal

pub returns-in_err-write_earlier : goal.returns-in_err-write_earlier
returns-in_err-write_earlier g c =
    let ls = c.args.lines.now in
    let e = c.args.evidence.now in
    let m = c.args.mutex in
    ends_at_first _ _ c.from_residual.result (earlier_note ls m e.got) (earlier_note ls m e.declared ++ earlier_note ls m e.left) c.from_residual.ensures.0 c.in_err-write_earlier.ensures

pub returns : goal.returns
returns g c =
    let ls = c.args.lines.now in
    let e = c.args.evidence.now in
    let m = c.args.mutex in
    then_leaves _ _ _ c.write_changes_since.result (earlier_note ls m e.got) (earlier_note ls m e.declared ++ earlier_note ls m e.left) c.in_ok-write_earlier.ensures c.write_changes_since.ensures
