use Rattle.explain.proofs.Claims as claims
use Rattle.explain.proofs.laws.waits_are_asked_as_waits.Goals as goal

pub returns : goal.returns
returns c = claims.waits_are_asked_as_waits
