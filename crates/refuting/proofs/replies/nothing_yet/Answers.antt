use Rattle.std.specs.Prelude.{None}
use Rattle.verdict.proofs.Owners.{all_alike}
use Rattle.refuting.proofs.replies.nothing_yet.Goals as goal
use Rattle.refuting.specs.States.{ids}

pub returns : goal.returns
returns c = λ t. all_alike ids None t
