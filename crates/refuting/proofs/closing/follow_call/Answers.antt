use Rattle.std.proofs.Common.{sym}
use Rattle.std.proofs.lemmas.Result.{IfOk-weaker}
use Rattle.refuting.proofs.Growing.{called}
use Rattle.refuting.proofs.closing.follow_call.Goals as goal

pub returns-clause-follows : goal.returns-clause-follows
returns-clause-follows c =
    IfOk-weaker c.follow_reply-2.result _ _ (λ x dead. called c.args.mutex c.args.turn c.in-Some.call c.follow_reply.new.states.items c.follow_reply-2.new.states.items c.args.state.now c.args.thread (sym c.in-Some.ensures) c.follow_reply-2.ensures.grows c.in_ok-follow_reply.ensures.follows dead) c.follow_reply-2.ensures.follows
