use Rattle.streams.proofs.Writers.{goes_on, stops_at}
use Rattle.judge_report.specs.Texts.{or_text}
use Rattle.judge_report.proofs.illegal.write_ors.Goals as goal

pub returns-in_err-write_or : goal.returns-in_err-write_or
returns-in_err-write_or g c =
    stops_at or_text c.args.replies.now c.loop-reply.reply-index _ _ _ _ c.from_residual.result c.loop-reply-test.true c.from_residual.ensures.0 c.loop-reply.invariant c.in_err-write_or.ensures

pub loop-reply-preserved : goal.loop-reply-preserved
loop-reply-preserved g c =
    goes_on or_text c.args.replies.now c.loop-reply.reply-index _ _ _ _ c.loop-reply-test.true c.loop-reply.invariant c.in_ok-write_or.ensures
