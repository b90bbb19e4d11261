use Rattle.explain.proofs.Claims as claims
use Rattle.explain.proofs.laws.titles_say_what_is_found.Goals as goal

pub returns : goal.returns
returns c = claims.titles_say_what_is_found
