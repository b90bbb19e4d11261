use Rattle.std.proofs.Common.{List, subst}
use Rattle.std.proofs.lemmas.List.{take_all}
use Rattle.lockword.specs.declared.reply.Reply.{Reply}
use Rattle.certificates.specs.Certificates.{whose}
use Rattle.judge.specs.Judgements.{AreSome}
use Rattle.judge.proofs.Some.{none_yet, some_more}
use Rattle.judge.proofs.replies.possible_among.Goals as goal

pub loop-reply-init : goal.loop-reply-init
loop-reply-init c = none_yet c.args.head.now c.args.lines.now (whose c.args.line.now.entry) _ c.new-found.ensures.items

pub loop-reply-preserved : goal.loop-reply-preserved
loop-reply-preserved c =
    some_more c.args.head.now c.args.lines.now (whose c.args.line.now.entry) c.args.replies.now c.loop-reply.reply-index _ c.in_ok-could.could _ _ c.loop-reply-test.true c.in_ok-could.ensures c.loop-reply.invariant c.in_ok-add.ensures

pub returns : goal.returns
returns c =
    subst (λ (xs : List Reply). AreSome c.args.head.now c.args.lines.now (whose c.args.line.now.entry) xs c.loop-reply.found.items) (take_all c.loop-reply.reply-index c.args.replies.now c.loop-reply-test.false) c.loop-reply.invariant
