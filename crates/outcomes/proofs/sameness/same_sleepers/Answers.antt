use Rattle.std.proofs.Common.{sym, ◌∙◌}
use Rattle.outcomes.proofs.Equalities.{same_Sleepers}
use Rattle.outcomes.proofs.sameness.same_sleepers.Goals as goal

pub returns : goal.returns
returns c = λ h. same_Sleepers c.args.a.now c.args.b.now (sym c.eq.ensures ∙ h)
