use Rattle.std.proofs.Common.{◌≡◌, ◌++◌}
use Rattle.std.specs.List.{flat_map, range_with_len}
use Rattle.explore_report.specs.Witnesses.{mutex_line}
use Rattle.explore_report.proofs.witness.add_mutexes.Given as goal

abbrev pub invariant-loop-mutex : goal.invariant-loop-mutex
invariant-loop-mutex l = l.text.items ≡ l.initial.text.items ++ flat_map (mutex_line l.script) (range_with_len 0 l.mutex)
