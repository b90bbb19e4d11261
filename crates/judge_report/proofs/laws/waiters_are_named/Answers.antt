use Rattle.judge_report.proofs.Naming.{waiters_named}
use Rattle.judge_report.proofs.laws.waiters_are_named.Goals as goal

pub returns : goal.returns
returns c = waiters_named
