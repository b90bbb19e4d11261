use Rattle.streams.proofs.Writers.{ends_at_first, then_leaves}
use Rattle.judge_report.specs.Texts.{reply_title, quote}
use Rattle.judge_report.proofs.evidence.write_reply.Goals as goal

pub returns-in_err-write_reply_title : goal.returns-in_err-write_reply_title
returns-in_err-write_reply_title g c =
    let l = c.args.line.now in
    ends_at_first _ _ c.from_residual.result (reply_title c.args.mutex c.args.told.now l) (quote l) c.from_residual.ensures.0 c.in_err-write_reply_title.ensures

pub returns : goal.returns
returns g c =
    let l = c.args.line.now in
    then_leaves _ _ _ c.write_quote.result (reply_title c.args.mutex c.args.told.now l) (quote l) c.in_ok-write_reply_title.ensures c.write_quote.ensures
