use Rattle.std.proofs.Common.{◌≡◌, ◌++◌, take, map}
use Rattle.std.specs.List.{flat_map}
use Rattle.explore_report.specs.Texts.{demand_text, demanded}
use Rattle.explore_report.proofs.judging.add_demands.Given as goal

abbrev pub invariant-loop-demand : goal.invariant-loop-demand
invariant-loop-demand l = l.text.items ≡ l.initial.text.items ++ flat_map (demand_text l.complete (map (λ w. w.now) l.outcomes)) (map demanded (take l.demand-index l.demands))
