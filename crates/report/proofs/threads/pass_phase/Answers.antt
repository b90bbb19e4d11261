use Rattle.report.proofs.threads.pass_phase.Goals as goal

pub returns-in-Ok : goal.returns-in-Ok
returns-in-Ok g c = record { worked = c.in_ok-worked.worked.items; work = c.in_ok-worked.ensures; meeting = c.in-Ok.ensures }
