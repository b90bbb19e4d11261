use Rattle.protocol.proofs.laws.nobody_joins_an_unusable_mutex.Goals as goal
use Rattle.protocol.proofs.Unusable.{nobody_joins}

pub returns : goal.returns
returns c = nobody_joins
