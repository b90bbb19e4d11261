use Rattle.ruledwords.proofs.ReleaseSteps.{◌⨾◌, ended, went}
use Rattle.ruledwords.proofs.pass.Words.first_release_steps.Goals as goal

pub returns-in_default-phase-2 : goal.returns-in_default-phase-2
returns-in_default-phase-2 g c =
    let all = went c.in_ok-release_step.ensures ⨾ went c.in_ok-release_step-2.ensures ⨾ went c.in_ok-release_step-3.ensures ⨾ went c.in_ok-release_step-4.ensures ⨾ went c.in_ok-release_step-5.ensures in
    record { steps = (all.there, all.stays); fate = all.fate }

pub returns : goal.returns
returns g c =
    let all = went c.in_ok-release_step.ensures ⨾ went c.in_ok-release_step-2.ensures ⨾ went c.in_ok-release_step-3.ensures ⨾ went c.in_ok-release_step-4.ensures ⨾ went c.in_ok-release_step-5.ensures ⨾ went c.in_ok-release_step-6.ensures in
    record { steps = (all.there, all.stays); fate = all.fate }

pub returns-in_err-release_step-2 : goal.returns-in_err-release_step-2
returns-in_err-release_step-2 g c = ended _ _ _ (went c.in_ok-release_step.ensures) c.in_err-release_step-2.ensures c.from_residual-in_err-release_step-2.ensures.1

pub returns-in_err-release_step-3 : goal.returns-in_err-release_step-3
returns-in_err-release_step-3 g c = ended _ _ _ (went c.in_ok-release_step.ensures ⨾ went c.in_ok-release_step-2.ensures) c.in_err-release_step-3.ensures c.from_residual-in_err-release_step-3.ensures.1

pub returns-in_err-release_step-4 : goal.returns-in_err-release_step-4
returns-in_err-release_step-4 g c = ended _ _ _ (went c.in_ok-release_step.ensures ⨾ went c.in_ok-release_step-2.ensures ⨾ went c.in_ok-release_step-3.ensures) c.in_err-release_step-4.ensures c.from_residual-in_err-release_step-4.ensures.1

pub returns-in_err-release_step-5 : goal.returns-in_err-release_step-5
returns-in_err-release_step-5 g c = ended _ _ _ (went c.in_ok-release_step.ensures ⨾ went c.in_ok-release_step-2.ensures ⨾ went c.in_ok-release_step-3.ensures ⨾ went c.in_ok-release_step-4.ensures) c.in_err-release_step-5.ensures c.from_residual-in_err-release_step-5.ensures.1

pub returns-in_err-release_step-6 : goal.returns-in_err-release_step-6
returns-in_err-release_step-6 g c = ended _ _ _ (went c.in_ok-release_step.ensures ⨾ went c.in_ok-release_step-2.ensures ⨾ went c.in_ok-release_step-3.ensures ⨾ went c.in_ok-release_step-4.ensures ⨾ went c.in_ok-release_step-5.ensures) c.in_err-release_step-6.ensures c.from_residual-in_err-release_step-6.ensures.1
