use Rattle.streams.proofs.Writers.{ends_at_first, then_leaves}
use Rattle.judge_report.specs.Texts.{entry_thread, possible_note, why_note}
use Rattle.judge_report.proofs.illegal.write_notes.Goals as goal

pub returns-in_err-write_possible : goal.returns-in_err-write_possible
returns-in_err-write_possible g c =
    ends_at_first _ _ c.from_residual.result (possible_note (entry_thread c.args.line.now.entry) c.args.possible.now) (why_note c.args.lines.now c.args.why.now) c.from_residual.ensures.0 c.in_err-write_possible.ensures

pub returns : goal.returns
returns g c =
    then_leaves _ _ _ c.write_why.result (possible_note (entry_thread c.args.line.now.entry) c.args.possible.now) (why_note c.args.lines.now c.args.why.now) c.in_ok-write_possible.ensures c.write_why.ensures
