use Rattle.std.proofs.Common.{sym, subst}
use Rattle.explain.specs.declared.explanation.Standing.{Standing}
use Rattle.explain.specs.Allowed.{AllowedArePermitted}
use Rattle.explain.proofs.Allowing.{permitted, same_standing}
use Rattle.explain.proofs.allowed.standing_of.Goals as goal

pub returns-clause-allowed : goal.returns-clause-allowed
returns-clause-allowed c = subst (λ (s : Standing). AllowedArePermitted c.args.object.now c.args.thread s) (sym (same_standing c.args.object.now c.args.thread c.owns.result c.is_none.result c.owns.ensures c.is_none.ensures)) (permitted c.args.object.now c.args.thread)
