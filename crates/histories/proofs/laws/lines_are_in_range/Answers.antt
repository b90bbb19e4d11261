use Rattle.histories.proofs.InRange.{in_range}
use Rattle.histories.proofs.laws.lines_are_in_range.Goals as goal

pub returns : goal.returns
returns c = in_range
