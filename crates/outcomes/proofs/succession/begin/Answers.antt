use Rattle.std.proofs.Common.{arith, ◌∙◌, ap, sym, Option}
use Rattle.outcomes.specs.declared.next.Next.{Next}
use Rattle.outcomes.specs.Events.{begun}
use Rattle.outcomes.specs.Kept.{places_in}
use Rattle.outcomes.proofs.Lives.{begun_is, begun_past}
use Rattle.outcomes.proofs.succession.begin.Goals as goal

pub returns-then-len-index : goal.returns-then-len-index
returns-then-len-index c =
    begun_past c.args.lives.now.items c.as_index-index.result c.args.thread c.in-Some.next c.as_index-index.ensures (let n = c.len.ensures in let past = c.if-len-index.true in omega arith)
    ∙ ap (λ (o : Option Next). begun (places_in c.args.lives.now.items) c.args.thread o) (sym c.in-Some.is)

pub returns : goal.returns
returns c =
    begun_is c.args.lives.now.items c.as_index-index.result c.args.thread c.index_mut.result.now c.in-Some.next c.as_index-index.ensures (let n = c.len.ensures in let below = c.if-len-index.false in omega arith) c.index_mut.ensures.value
    ∙ ap (λ (o : Option Next). begun (places_in c.args.lives.now.items) c.args.thread o) (sym c.in-Some.is)
