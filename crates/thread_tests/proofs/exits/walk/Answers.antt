use Rattle.ruledwords.specs.Passes.{card}
use Rattle.thread_tests.proofs.exits.walk.Goals as goal

pub loop-accesses-preserved : goal.loop-accesses-preserved
loop-accesses-preserved c =
    let on = c.in-Goes.ensures (card c.args.pass) c.loop-accesses.invariant.walked in
    record { of = on.0; walked = on.1 }

pub returns-in-Reaped : goal.returns-in-Reaped
returns-in-Reaped c = (c.in-Reaped.ensures (card c.args.pass) c.loop-accesses.invariant.walked).0
