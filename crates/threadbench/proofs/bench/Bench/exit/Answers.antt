use Rattle.std.proofs.Common.{subst}
use Rattle.ruledwords.specs.declared.pass.Words.{Words}
use Rattle.ruledwords.specs.Deaths.{reaping_pass, HasWalked, IsReapingOf}
use Rattle.ruledwords.specs.Passes.{card, layout_of}
use Rattle.threadbench.proofs.bench.Bench.exit.Goals as goal

pub loop-init : goal.loop-init
loop-init g c =
    let r = c.walk-reaping.result in
    let told = subst (λ (w : Words). IsReapingOf w r × HasWalked (layout_of w) (card c.args.pass) (card (reaping_pass r))) c.self.view_is (c.walk-reaping.ensures.words, c.walk-reaping.ensures.walked) in
    (tt, tt, told.0, told.1)

pub walk_on-requires : goal.walk_on-requires
walk_on-requires g c = c.loop.invariant.2

pub loop-preserved : goal.loop-preserved
loop-preserved g c =
    let on = c.in-Goes.ensures (card c.args.pass) c.loop.invariant.3 in
    (tt, tt, on.0, on.1)

pub returns-in-Reaped-clause-pass : goal.returns-in-Reaped-clause-pass
returns-in-Reaped-clause-pass g c = (c.in-Reaped.ensures (card c.args.pass) c.loop.invariant.3).0

pub returns-in-Reaped-clause-reaped : goal.returns-in-Reaped-clause-reaped
returns-in-Reaped-clause-reaped g c = (c.in-Reaped.ensures (card c.args.pass) c.loop.invariant.3).1
