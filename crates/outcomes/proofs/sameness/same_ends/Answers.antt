use Rattle.std.proofs.Common.{◌<◌, length, arith}
use Rattle.outcomes.specs.Outcomes.{ended_in}
use Rattle.outcomes.proofs.Lists.{map_differs}
use Rattle.outcomes.proofs.sameness.same_ends.Goals as goal

pub returns-then-not-same_end : goal.returns-then-not-same_end
returns-then-not-same_end c =
    let below : c.loop-index.index < length c.args.b.now = (let n = c.if-a-b.false in let lt = c.loop-index-test.true in omega arith) in
    map_differs ended_in c.args.a.now c.args.b.now c.loop-index.index c.index-a-index.result c.index-b-index.result c.loop-index-test.true below c.index-a-index.is c.index-b-index.is c.if-not-same_end.ensures
