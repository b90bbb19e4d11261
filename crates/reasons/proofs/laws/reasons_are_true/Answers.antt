use Rattle.reasons.proofs.Truths as truths
use Rattle.reasons.proofs.laws.reasons_are_true.Goals as goal

pub returns : goal.returns
returns c = truths.reasons_are_true
