use Rattle.report.proofs.Permitted.{only_answers}
use Rattle.report.proofs.laws.mutexes_permit_only_answers.Goals as goal

pub returns : goal.returns
returns c = only_answers
