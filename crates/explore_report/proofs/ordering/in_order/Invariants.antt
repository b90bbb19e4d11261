use Rattle.std.proofs.Common.{◌≡◌, map}
use Rattle.std.specs.List.{flat_map, range_with_len}
use Rattle.explore_report.specs.Texts.{with_deaths}
use Rattle.explore_report.proofs.ordering.in_order.Given as goal

abbrev pub invariant-loop-count : goal.invariant-loop-count
invariant-loop-count l = map (λ w. w.now) l.order.items ≡ flat_map (with_deaths l.outcomes) (range_with_len 0 l.count)
