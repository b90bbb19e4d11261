use Rattle.std.proofs.Common.{sym, subst, arith, List}
use Rattle.protocol.specs.declared.event.Event.{Event}
use Rattle.outcomes.specs.Positions.{first}
use Rattle.outcomes.specs.Runs.{IsRun}
use Rattle.outcomes.proofs.Reaching.{run_back, below_it, from_first}
use Rattle.outcomes.proofs.search.Search.run_to.Goals as goal

pub loop-from-smaller : goal.loop-from-smaller
loop-from-smaller c = below_it c.args.plan.now c.args.self.now.reached.items c.loop-from.here c.index.result.now (c.in-Some.from, c.in-Some.event) c.requires.reached c.loop-from.invariant.here c.index.ensures c.in-Some.is

pub loop-from-preserved : goal.loop-from-preserved
loop-from-preserved c =
    let lower = below_it c.args.plan.now c.args.self.now.reached.items c.loop-from.here c.index.result.now (c.in-Some.from, c.in-Some.event) c.requires.reached c.loop-from.invariant.here c.index.ensures c.in-Some.is in
    let below = c.loop-from.invariant.here in
    record {
      here = omega (arith, lower, below);
      run = λ q p at end.
          run_back c.args.plan.now c.args.self.now.reached.items c.loop-from.here c.index.result.now (c.in-Some.from, c.in-Some.event) c.loop-from.events.items c.add.new.list.items c.requires.reached c.loop-from.invariant.here c.index.ensures c.in-Some.is c.in_ok-add.ensures
          p (λ z there. c.loop-from.invariant.run z p there end) q at;
    }

pub returns : goal.returns
returns c = λ p at.
    subst (λ (xs : List Event). IsRun c.args.plan.now (first c.args.plan.now) xs p) (sym c.reverse.ensures.items)
    (c.loop-from.invariant.run (first c.args.plan.now) p (from_first c.args.plan.now c.args.self.now.reached.items c.loop-from.here c.index.result.now c.requires.reached c.loop-from.invariant.here c.index.ensures c.in_default.is) at)
