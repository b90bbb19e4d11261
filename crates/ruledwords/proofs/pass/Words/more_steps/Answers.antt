use Rattle.ruledwords.proofs.Stepping.{◌⨾◌, ended, went, went_nowhere}
use Rattle.ruledwords.proofs.pass.Words.more_steps.Goals as goal

pub loop-init : goal.loop-init
loop-init g c = went_nowhere _ _ c.requires

pub next-requires : goal.next-requires
next-requires g c = c.loop.invariant.came.0.going

pub loop-preserved : goal.loop-preserved
loop-preserved g c = c.loop.invariant ⨾ went c.in_ok-step.ensures

pub returns-in_err-step : goal.returns-in_err-step
returns-in_err-step g c = ended _ _ _ c.loop.invariant c.in_err-step.ensures c.from_residual.ensures.1
