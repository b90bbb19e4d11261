use Rattle.std.proofs.Common.{subst}
use Rattle.std.specs.Prelude.{Ok}
use Rattle.ruledwords.specs.declared.turn.CondTurn.{CondTurn}
use Rattle.ruledwords.specs.declared.turn.CondTurn.TheVariants.{Goes, Locks}
use Rattle.threadbench.specs.Conditions.{CondComesTo}
use Rattle.ruledwords.proofs.Fates.{heeds_on}
use Rattle.threadbench.proofs.Waiting.{came_on, dies_out, locks_out, same_cell}
use Rattle.threadbench.proofs.bench.Bench.run_condition_on.Goals as goal

pub loop-preserved : goal.loop-preserved
loop-preserved g c =
    let i = c.loop.invariant in
    let w = c.args.self.now in
    let r = c.loop.running in
    let next = c.in-Ok-Goes.next in
    let on : CondComesTo w r (Ok (Goes next)) = subst (λ (t : CondTurn). CondComesTo w r (Ok t)) c.in-Ok-Goes.field-0-is c.in-Ok-Goes.ensures.comes in (
      tt,
      tt,
      on.0,
      came_on w c.args.running r next i.3 on,
      same_cell w r next c.args.cell.0 i.4 on,
      heeds_on _ _ _ _ _ _ _ i.5 c.in-Ok-Goes.ensures.fate,
    )

pub returns-in-Ok-Locks-clause-runs : goal.returns-in-Ok-Locks-clause-runs
returns-in-Ok-Locks-clause-runs g c =
    let w = c.args.self.now in
    let r = c.loop.running in
    let lock = c.in-Ok-Locks.lock in
    let on : CondComesTo w r (Ok (Locks lock)) = subst (λ (t : CondTurn). CondComesTo w r (Ok t)) c.in-Ok-Locks.field-0-is c.in-Ok-Locks.ensures.comes in
    locks_out w c.args.running r lock c.run_on.result c.loop.invariant.3 on c.run_on.ensures.runs

pub returns-in-Err-clause-runs : goal.returns-in-Err-clause-runs
returns-in-Err-clause-runs g c = dies_out c.args.self.now c.args.running c.loop.running c.in-Err.pass c.loop.invariant.3 c.in-Err.ensures.comes
