use Rattle.ruledwords.proofs.Stepping.{◌⨾◌, ended, went}
use Rattle.ruledwords.proofs.pass.Words.first_steps.Goals as goal

pub returns-then-not-takes : goal.returns-then-not-takes
returns-then-not-takes g c =
    let all = went c.in_ok-step.ensures ⨾ went c.in_ok-step-2.ensures in
    record { steps = all.came; fate = all.fate }

pub returns-in_default : goal.returns-in_default
returns-in_default g c =
    let all = went c.in_ok-step.ensures ⨾ went c.in_ok-step-2.ensures ⨾ went c.in_ok-step-3.ensures in
    record { steps = all.came; fate = all.fate }

pub returns : goal.returns
returns g c =
    let all = went c.in_ok-step.ensures ⨾ went c.in_ok-step-2.ensures ⨾ went c.in_ok-step-3.ensures ⨾ went c.in_ok-step-4.ensures ⨾ went c.in_ok-step-5.ensures ⨾ went c.in_ok-step-6.ensures ⨾ went c.in_ok-step-7.ensures ⨾ went c.in_ok-step-8.ensures ⨾ went c.in_ok-step-9.ensures in
    record { steps = all.came; fate = all.fate }

pub returns-in_err-step-2 : goal.returns-in_err-step-2
returns-in_err-step-2 g c = ended _ _ _ (went c.in_ok-step.ensures) c.in_err-step-2.ensures c.from_residual-in_err-step-2.ensures.1

pub returns-in_err-step-3 : goal.returns-in_err-step-3
returns-in_err-step-3 g c = ended _ _ _ (went c.in_ok-step.ensures ⨾ went c.in_ok-step-2.ensures) c.in_err-step-3.ensures c.from_residual-in_err-step-3.ensures.1

pub returns-in_err-step-4 : goal.returns-in_err-step-4
returns-in_err-step-4 g c = ended _ _ _ (went c.in_ok-step.ensures ⨾ went c.in_ok-step-2.ensures ⨾ went c.in_ok-step-3.ensures) c.in_err-step-4.ensures c.from_residual-in_err-step-4.ensures.1

pub returns-in_err-step-5 : goal.returns-in_err-step-5
returns-in_err-step-5 g c = ended _ _ _ (went c.in_ok-step.ensures ⨾ went c.in_ok-step-2.ensures ⨾ went c.in_ok-step-3.ensures ⨾ went c.in_ok-step-4.ensures) c.in_err-step-5.ensures c.from_residual-in_err-step-5.ensures.1

pub returns-in_err-step-6 : goal.returns-in_err-step-6
returns-in_err-step-6 g c = ended _ _ _ (went c.in_ok-step.ensures ⨾ went c.in_ok-step-2.ensures ⨾ went c.in_ok-step-3.ensures ⨾ went c.in_ok-step-4.ensures ⨾ went c.in_ok-step-5.ensures) c.in_err-step-6.ensures c.from_residual-in_err-step-6.ensures.1

pub returns-in_err-step-7 : goal.returns-in_err-step-7
returns-in_err-step-7 g c = ended _ _ _ (went c.in_ok-step.ensures ⨾ went c.in_ok-step-2.ensures ⨾ went c.in_ok-step-3.ensures ⨾ went c.in_ok-step-4.ensures ⨾ went c.in_ok-step-5.ensures ⨾ went c.in_ok-step-6.ensures) c.in_err-step-7.ensures c.from_residual-in_err-step-7.ensures.1

pub returns-in_err-step-8 : goal.returns-in_err-step-8
returns-in_err-step-8 g c = ended _ _ _ (went c.in_ok-step.ensures ⨾ went c.in_ok-step-2.ensures ⨾ went c.in_ok-step-3.ensures ⨾ went c.in_ok-step-4.ensures ⨾ went c.in_ok-step-5.ensures ⨾ went c.in_ok-step-6.ensures ⨾ went c.in_ok-step-7.ensures) c.in_err-step-8.ensures c.from_residual-in_err-step-8.ensures.1

pub returns-in_err-step-9 : goal.returns-in_err-step-9
returns-in_err-step-9 g c = ended _ _ _ (went c.in_ok-step.ensures ⨾ went c.in_ok-step-2.ensures ⨾ went c.in_ok-step-3.ensures ⨾ went c.in_ok-step-4.ensures ⨾ went c.in_ok-step-5.ensures ⨾ went c.in_ok-step-6.ensures ⨾ went c.in_ok-step-7.ensures ⨾ went c.in_ok-step-8.ensures) c.in_err-step-9.ensures c.from_residual-in_err-step-9.ensures.1
