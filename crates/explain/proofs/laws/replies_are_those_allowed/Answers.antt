use Rattle.explain.proofs.Claims as claims
use Rattle.explain.proofs.laws.replies_are_those_allowed.Goals as goal

pub returns : goal.returns
returns c = claims.replies_are_those_allowed
