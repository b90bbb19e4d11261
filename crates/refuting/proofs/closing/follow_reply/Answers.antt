use Rattle.std.proofs.lemmas.Result.{IfOk-weaker}
use Rattle.refuting.proofs.Growing.{replied}
use Rattle.refuting.proofs.closing.follow_reply.Goals as goal

pub returns-clause-follows : goal.returns-clause-follows
returns-clause-follows c =
    IfOk-weaker c.add_noted.result _ _ (λ x added. replied c.acted.result c.add_noted.new.states.items c.args.state.now c.args.thread c.args.call c.args.reply c.acted.ensures added) c.add_noted.ensures.covered
