use Rattle.std.proofs.Common.{◌≡◌, ◌++◌}
use Rattle.std.specs.List.{flat_map, range_with_len}
use Rattle.explore_report.specs.Witnesses.{condition_at}
use Rattle.explore_report.proofs.witness.add_conditions.Given as goal

abbrev pub invariant-loop-condition : goal.invariant-loop-condition
invariant-loop-condition l = l.text.items ≡ l.initial.text.items ++ flat_map (condition_at l.script) (range_with_len 0 l.condition)
