use Rattle.std.proofs.Common.{◌≡◌, map, take}
use Rattle.explore_report.proofs.planning.presets_of.Given as goal

abbrev pub invariant-loop-condition : goal.invariant-loop-condition
invariant-loop-condition l = l.presets.items ≡ map (λ c. c.counter) (take l.condition (map (λ x. x.1) l.script.conditions))
