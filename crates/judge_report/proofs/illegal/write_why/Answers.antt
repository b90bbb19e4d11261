use Rattle.judge_report.proofs.illegal.write_why.Goals as goal

pub returns-in-NoOrder : goal.returns-in-NoOrder
returns-in-NoOrder g c = rw c.in-NoOrder.is c.write_call.ensures
