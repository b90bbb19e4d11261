use Rattle.judge_report.proofs.waiting.write_since_note.Goals as goal

pub returns-in-Some : goal.returns-in-Some
returns-in-Some g c = rw c.in-Some.is c.write_since.ensures
