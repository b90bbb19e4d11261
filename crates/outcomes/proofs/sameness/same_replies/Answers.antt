use Rattle.std.proofs.lemmas.Slice.Eq.{slice_eq-Decides}
use Rattle.outcomes.proofs.Equalities.{reply_Decides, matched}
use Rattle.outcomes.proofs.sameness.same_replies.Goals as goal

pub returns : goal.returns
returns c = matched c.eq.result (slice_eq-Decides reply_Decides c.args.a.now c.args.b.now c.eq.result c.eq.ensures)
