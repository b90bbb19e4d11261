use Rattle.judge_report.proofs.evidence.write_death_at.Goals as goal

pub returns-in-Some : goal.returns-in-Some
returns-in-Some g c = rw c.in-Some.is c.write_death.ensures
