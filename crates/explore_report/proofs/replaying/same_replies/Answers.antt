use Rattle.std.proofs.lemmas.Slice.Eq.{slice_eq-Decides}
use Rattle.outcomes.proofs.Equalities.{reply_Decides}
use Rattle.explore_report.proofs.replaying.same_replies.Goals as goal

pub returns-clause-so : goal.returns-clause-so
returns-clause-so c = (slice_eq-Decides reply_Decides c.args.a.now c.args.b.now c.eq.result c.eq.ensures).0

pub returns-clause-only : goal.returns-clause-only
returns-clause-only c = (slice_eq-Decides reply_Decides c.args.a.now c.args.b.now c.eq.result c.eq.ensures).1
