use Rattle.std.proofs.Common.{◌≡◌, drop, map}
use Rattle.explore_report.specs.Texts.{are_met, demanded}
use Rattle.explore_report.proofs.judging.are_met.Given as goal

abbrev pub invariant-loop-demand : goal.invariant-loop-demand
invariant-loop-demand l = are_met (map (λ w. w.now) l.outcomes) (map demanded (drop l.demand-index l.demands)) ≡ are_met (map (λ w. w.now) l.outcomes) (map demanded l.demands)
