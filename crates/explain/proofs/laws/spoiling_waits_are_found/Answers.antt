use Rattle.explain.proofs.Claims as claims
use Rattle.explain.proofs.laws.spoiling_waits_are_found.Goals as goal

pub returns : goal.returns
returns c = claims.spoiling_waits_are_found
