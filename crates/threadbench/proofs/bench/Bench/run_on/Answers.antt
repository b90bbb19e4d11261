use Rattle.ruledwords.specs.declared.turn.Stretch.TheVariants as stretch
use Rattle.ruledwords.proofs.Fates.{heeds_nothing, heeds_on}
use Rattle.threadbench.proofs.Turning.{ran_dead, ran_out, stays_there, stretched_on}
use Rattle.threadbench.proofs.bench.Bench.run_on.Goals as goal

pub loop-init : goal.loop-init
loop-init g c = (tt, tt, stays_there c.args.self.now c.args.running c.requires, heeds_nothing _ _)

pub turn-requires : goal.turn-requires
turn-requires g c = c.loop.invariant.2.0

pub loop-preserved : goal.loop-preserved
loop-preserved g c =
    let i = c.loop.invariant in (
      tt,
      tt,
      stretched_on c.args.self.now c.args.running c.loop.running (stretch.Goes c.in-Goes.next) i.2 c.in-Goes.ensures.stretches,
      heeds_on _ _ _ _ _ _ _ i.3 c.in-Goes.ensures.fate,
    )

pub returns-in-Lives-clause-runs : goal.returns-in-Lives-clause-runs
returns-in-Lives-clause-runs g c =
    let w = c.args.self.now in
    ran_out w c.args.running c.in-Lives.pass c.in-Lives.reply (stretched_on w c.args.running c.loop.running (stretch.Lives c.in-Lives.pass c.in-Lives.reply) c.loop.invariant.2 c.in-Lives.ensures.stretches)

pub returns-in-Lives-clause-fate : goal.returns-in-Lives-clause-fate
returns-in-Lives-clause-fate g c = heeds_on _ _ _ _ _ _ _ c.loop.invariant.3 c.in-Lives.ensures.fate

pub returns-in-Dead-clause-runs : goal.returns-in-Dead-clause-runs
returns-in-Dead-clause-runs g c =
    let w = c.args.self.now in
    ran_dead w c.args.running c.in-Dead.pass (stretched_on w c.args.running c.loop.running (stretch.Dead c.in-Dead.pass) c.loop.invariant.2 c.in-Dead.ensures.stretches)

pub returns-in-Dead-clause-fate : goal.returns-in-Dead-clause-fate
returns-in-Dead-clause-fate g c = heeds_on _ _ _ _ _ _ _ c.loop.invariant.3 c.in-Dead.ensures.fate
