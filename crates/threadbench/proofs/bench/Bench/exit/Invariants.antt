use Rattle.ruledwords.specs.Deaths.{reaping_pass, HasWalked, IsReapingOf}
use Rattle.ruledwords.specs.Passes.{card, layout_of}
use Rattle.threadbench.proofs.bench.Bench.exit.Given as goal

abbrev pub invariant-loop : goal.invariant-loop
invariant-loop g l =
    (goal.iterator-loop g).can_next l.iterator' × (goal.iterator-loop g).is_finite l.iterator' × IsReapingOf l.self l.reaping
    × HasWalked (layout_of l.self) (card l.fn.pass) (card (reaping_pass l.reaping))
