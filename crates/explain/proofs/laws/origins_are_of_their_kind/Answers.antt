use Rattle.explain.proofs.Claims as claims
use Rattle.explain.proofs.laws.origins_are_of_their_kind.Goals as goal

pub returns : goal.returns
returns c = claims.origins_are_of_their_kind
