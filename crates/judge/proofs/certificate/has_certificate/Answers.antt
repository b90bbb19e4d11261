use Rattle.judge.proofs.Legal.{legal}
use Rattle.judge.proofs.certificate.has_certificate.Goals as goal

pub returns : goal.returns
returns c = λ yes. let found = rw c.in-Some.is at c.in_ok-_steps.ensures in legal _ _ _ found
