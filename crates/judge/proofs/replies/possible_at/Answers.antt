use Rattle.std.proofs.Common.{List, IfOk, subst}
use Rattle.lockword.specs.declared.reply.Reply.{Reply}
use Rattle.certificates.specs.Certificates.{whose}
use Rattle.judge.specs.Judgements.{AreSome}
use Rattle.judge.proofs.replies.possible_at.Goals as goal

pub returns-in-NoOrder : goal.returns-in-NoOrder
returns-in-NoOrder c =
    rw c.in-NoOrder.is (subst (λ (xs : List Reply). IfOk c.possible_among.result (λ found. AreSome c.args.head.now c.args.lines.now (whose c.args.line.now.entry) xs found.items)) c.replies_of.ensures c.possible_among.ensures)
