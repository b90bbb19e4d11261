use Rattle.std.proofs.Common.{◌≡◌, ◌++◌}
use Rattle.std.specs.List.{flat_map, range_with_len}
use Rattle.explore_report.specs.Witnesses.{process_at}
use Rattle.explore_report.proofs.witness.add_processes.Given as goal

abbrev pub invariant-loop-before : goal.invariant-loop-before
invariant-loop-before l = l.text.items ≡ l.initial.text.items ++ flat_map (process_at l.script) (range_with_len 0 l.before)
