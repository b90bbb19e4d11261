use Rattle.std.proofs.Common.{◌≡◌, ◌++◌}
use Rattle.std.specs.List.{flat_map, range_with_len}
use Rattle.explore_report.specs.Witnesses.{thread_line}
use Rattle.explore_report.proofs.witness.add_threads.Given as goal

abbrev pub invariant-loop-before : goal.invariant-loop-before
invariant-loop-before l = l.text.items ≡ l.initial.text.items ++ flat_map (thread_line l.script) (range_with_len 0 l.before)
