use Rattle.ruledwords.specs.ConditionCalls.{IsCondRunningOf}
use Rattle.ruledwords.specs.Fates.{Heeds}
use Rattle.threadbench.specs.Conditions.{IsCellOf}
use Rattle.threadbench.proofs.Waiting.{ComesFar}
use Rattle.threadbench.proofs.bench.Bench.run_condition_on.Given as goal

abbrev pub invariant-loop : goal.invariant-loop
invariant-loop g l =
    (goal.iterator-loop g).can_next l.iterator' × (goal.iterator-loop g).is_finite l.iterator' × IsCondRunningOf l.self l.running × ComesFar l.self l.fn.running l.running × IsCellOf l.self l.running l.cell.0
    × Heeds (g.F.Fate.stopped l.fn.fate) (g.F.Fate.stopped l.fate) (g.N.Fate.stopped l.fn.note) (g.N.Fate.stopped l.note) 0
