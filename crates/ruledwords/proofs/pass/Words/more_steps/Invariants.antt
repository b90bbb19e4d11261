use Rattle.ruledwords.proofs.Stepping.{Went}
use Rattle.ruledwords.proofs.pass.Words.more_steps.Given as goal

abbrev pub invariant-loop : goal.invariant-loop
invariant-loop g l = Went l.self l.fn.pass l.fn.begun l.pass l.program (g.F.Fate.stopped l.fn.fate) (g.F.Fate.stopped l.fate) (g.N.Fate.stopped l.fn.note) (g.N.Fate.stopped l.note)
