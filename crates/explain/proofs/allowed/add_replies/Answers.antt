use Rattle.std.proofs.Common.{◌++◌, false, ap, ◌∙◌}
use Rattle.explain.specs.Allowed.{allowed_words}
use Rattle.explain.proofs.Allowing.{all_replied, one_reply}
use Rattle.explain.proofs.allowed.add_replies.Goals as goal

pub loop-reply-preserved : goal.loop-reply-preserved
loop-reply-preserved c = one_reply c.args.standing c.args.operation c.loop-reply.told c.in_ok-now.now c.replies-replies.result.now c.loop-reply.reply-index _ c.loop-reply.text.items _ _ c.loop-reply-test.true c.in_ok-now.ensures.told c.in_ok-now.ensures.text c.loop-reply.invariant

pub returns : goal.returns
returns c =
    all_replied c.args.standing c.args.operation c.loop-reply.told c.replies-replies.result.now c.loop-reply.reply-index c.loop-reply.text.items _ _ c.loop-reply-test.false c.in_ok-add_end.ensures c.loop-reply.invariant
    ∙ ap (λ rs. c.args.text.now.items ++ allowed_words c.args.standing c.args.operation false rs) c.replies-replies.ensures
