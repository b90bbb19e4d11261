use Rattle.std.proofs.Common.{sym, ◌∙◌}
use Rattle.outcomes.proofs.Equalities.{same_Thread}
use Rattle.outcomes.proofs.sameness.same_thread.Goals as goal

pub returns : goal.returns
returns c = λ h ka kb. same_Thread c.args.a.now c.args.b.now ka kb (sym c.eq.ensures ∙ h)
