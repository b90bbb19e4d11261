use Rattle.std.proofs.Common.{ℕ, ◌+◌, ◌≤◌, Option, subst}
use Rattle.std.specs.Option.{SomeIff}
use Rattle.script.proofs.Dying.{one_more}
use Rattle.script.proofs.gathering.dies_of.Goals as goal
use Rattle.lockword.specs.Threads.{most_threads}

pub loop-earlier-preserved : goal.loop-earlier-preserved
loop-earlier-preserved c =
    let k = c.loop-earlier.earlier in
    let id = (subst (λ (o : Option ℕ). SomeIff o ((1 ≤ k + 1) × (k + 1 ≤ most_threads)) (k + 1)) c.unwrap-thread.ensures c.new.ensures).1 in
    rw (c.in_ok-push.ensures.items, c.death_of.ensures) (one_more c.args.commands.now c.loop-earlier.dies.items k c.unwrap-thread.result id c.loop-earlier.invariant)
