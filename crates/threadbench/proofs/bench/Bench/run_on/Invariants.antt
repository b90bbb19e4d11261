use Rattle.ruledwords.specs.declared.turn.Stretch.TheVariants as stretch
use Rattle.ruledwords.specs.Fates.{Heeds}
use Rattle.ruledwords.specs.Stretches.{Stretches}
use Rattle.threadbench.proofs.bench.Bench.run_on.Given as goal

abbrev pub invariant-loop : goal.invariant-loop
invariant-loop g l =
    (goal.iterator-loop g).can_next l.iterator' × (goal.iterator-loop g).is_finite l.iterator' × Stretches l.self l.fn.running (stretch.Goes l.running)
    × Heeds (g.F.Fate.stopped l.fn.fate) (g.F.Fate.stopped l.fate) (g.N.Fate.stopped l.fn.note) (g.N.Fate.stopped l.note) 0
