use Rattle.std.proofs.Common.{◌≡◌, ◌+◌, map}
use Rattle.std.specs.List.{range_with_len}
use Rattle.explore_report.specs.Plans.{items_of, said_by}
use Rattle.explore_report.proofs.planning.all_items.Given as goal

abbrev pub invariant-loop-before : goal.invariant-loop-before
invariant-loop-before l = map (λ items. items.items) l.threads.items ≡ map (λ i. items_of (said_by l.explored) (i + 1)) (range_with_len 0 l.before)
