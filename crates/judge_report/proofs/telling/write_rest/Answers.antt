use Rattle.streams.proofs.Writers.{ends_at_first, then_leaves}
use Rattle.judge_report.specs.Texts.{cuts_text, waiters_text}
use Rattle.judge_report.proofs.telling.write_rest.Goals as goal

pub returns-in_err-write_cuts : goal.returns-in_err-write_cuts
returns-in_err-write_cuts g c =
    ends_at_first _ _ c.from_residual.result (cuts_text c.args.cuts.now) (waiters_text c.args.lines.now c.args.waiters.now) c.from_residual.ensures.0 c.in_err-write_cuts.ensures

pub returns : goal.returns
returns g c =
    then_leaves _ _ _ c.write_waiters.result (cuts_text c.args.cuts.now) (waiters_text c.args.lines.now c.args.waiters.now) c.in_ok-write_cuts.ensures c.write_waiters.ensures
