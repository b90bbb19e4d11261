use Rattle.std.proofs.lemmas.Slice.Eq.{slice_eq-Decides}
use Rattle.outcomes.proofs.Equalities.{object_Decides, matched}
use Rattle.outcomes.proofs.sameness.same_mutexes.Goals as goal

pub returns : goal.returns
returns c = matched c.eq.result (slice_eq-Decides object_Decides c.args.a.now c.args.b.now c.eq.result c.eq.ensures)
