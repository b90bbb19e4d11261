use Rattle.explain.proofs.Claims as claims
use Rattle.explain.proofs.laws.all_of_the_kind_are_origins.Goals as goal

pub returns : goal.returns
returns c = claims.all_of_the_kind_are_origins
