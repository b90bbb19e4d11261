use Rattle.std.proofs.Common.{arith, ◌∙◌, ap, sym, Option, ℕ}
use Rattle.lockword.specs.declared.reply.Reply.{Reply}
use Rattle.outcomes.specs.Events.{replied}
use Rattle.outcomes.specs.Kept.{places_in}
use Rattle.outcomes.proofs.Lives.{replied_is, replied_past}
use Rattle.outcomes.proofs.succession.add_reply.Goals as goal

pub returns-then-len-index : goal.returns-then-len-index
returns-then-len-index c =
    replied_past c.args.lives.now.items c.as_index-index.result c.in-Some.pair.0 c.in-Some.pair.1 c.as_index-index.ensures (let n = c.len.ensures in let past = c.if-len-index.true in omega arith)
    ∙ ap (λ (o : Option (ℕ × Reply)). replied o (places_in c.args.lives.now.items)) (sym c.in-Some.is)

pub returns : goal.returns
returns c =
    replied_is c.args.lives.now.items c.as_index-index.result c.in-Some.pair.0 c.index_mut.result.now c.in-Some.pair.1 c.add.new.list c.as_index-index.ensures (let n = c.len.ensures in let below = c.if-len-index.false in omega arith) c.index_mut.ensures.value c.in_ok-add.ensures
    ∙ ap (λ (o : Option (ℕ × Reply)). replied o (places_in c.args.lives.now.items)) (sym c.in-Some.is)
