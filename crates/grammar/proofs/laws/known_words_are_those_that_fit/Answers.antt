use Rattle.grammar.proofs.Listed.{known_words_fit}
use Rattle.grammar.proofs.laws.known_words_are_those_that_fit.Goals as goal

pub returns : goal.returns
returns c = known_words_fit
