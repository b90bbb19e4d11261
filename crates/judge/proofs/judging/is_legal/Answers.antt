use Rattle.std.proofs.Common.{arith}
use Rattle.judge.proofs.judging.is_legal.Goals as goal

pub returns : goal.returns
returns c = λ yes. (omega arith, c.in_ok-found.ensures yes)
