use Rattle.reasons.proofs.Truths as truths
use Rattle.reasons.proofs.laws.end_has_its_words.Goals as goal

pub returns : goal.returns
returns c = truths.end_has_its_words
