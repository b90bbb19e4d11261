use Rattle.std.proofs.Common.{sym, ◌∙◌}
use Rattle.outcomes.proofs.Equalities.{object_Decides}
use Rattle.explore_report.proofs.replaying.is_left.Goals as goal

pub returns-clause-so : goal.returns-clause-so
returns-clause-so c = λ same. sym c.object_of.ensures ∙ (object_Decides c.object_of.result c.args.object.now).0 (sym c.eq.ensures ∙ same)

pub returns-clause-only : goal.returns-clause-only
returns-clause-only c = λ same. c.eq.ensures ∙ (object_Decides c.object_of.result c.args.object.now).1 (c.object_of.ensures ∙ same)
