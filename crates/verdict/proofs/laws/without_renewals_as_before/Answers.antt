use Rattle.verdict.proofs.OneLife.{lives_once}
use Rattle.verdict.proofs.laws.without_renewals_as_before.Goals as goal

pub returns : goal.returns
returns c = lives_once
