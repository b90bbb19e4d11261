use Rattle.std.proofs.Common.{◌++◌}
use Rattle.streams.proofs.Writers.{ends_at_first, then_leaves}
use Rattle.judge_report.specs.Texts.{cuts_text, legal_text, waiters_text}
use Rattle.judge_report.proofs.telling.tell_legal.Goals as goal

pub returns-in_err-write_legal : goal.returns-in_err-write_legal
returns-in_err-write_legal g c =
    ends_at_first _ _ c.from_residual.result (legal_text c.args.points c.args.lines.now) (cuts_text c.args.cuts.now ++ waiters_text c.args.lines.now c.args.waiters.now) c.from_residual.ensures.0 c.in_err-write_legal.ensures

pub returns : goal.returns
returns g c =
    then_leaves _ _ _ c.write_rest.result (legal_text c.args.points c.args.lines.now) (cuts_text c.args.cuts.now ++ waiters_text c.args.lines.now c.args.waiters.now) c.in_ok-write_legal.ensures c.write_rest.ensures
