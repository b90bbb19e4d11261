use Rattle.judge_report.proofs.waiting.write_since_words.Goals as goal

pub returns-in-Some : goal.returns-in-Some
returns-in-Some g c = rw c.in-Some.is c.write_left.ensures

pub returns-in-None : goal.returns-in-None
returns-in-None g c = rw c.in-None.is c.write_never_left.ensures
