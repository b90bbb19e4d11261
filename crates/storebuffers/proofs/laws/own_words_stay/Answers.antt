use Rattle.storebuffers.proofs.OwnWords.{stay}
use Rattle.storebuffers.proofs.laws.own_words_stay.Goals as goal

pub returns : goal.returns
returns c = stay
