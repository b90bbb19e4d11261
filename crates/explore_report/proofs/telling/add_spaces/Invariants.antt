use Rattle.std.proofs.Common.{◌≡◌, ◌++◌}
use Rattle.explore_report.specs.Texts.{spaces}
use Rattle.explore_report.proofs.telling.add_spaces.Given as goal

abbrev pub invariant-loop-done : goal.invariant-loop-done
invariant-loop-done l = l.text.items ≡ l.initial.text.items ++ spaces l.done
