use Rattle.std.proofs.Common.{◌≡◌, ◌++◌, map, take}
use Rattle.explore_report.specs.Texts.{with_deaths}
use Rattle.explore_report.proofs.ordering.add_with.Given as goal

abbrev pub invariant-loop-witnessed : goal.invariant-loop-witnessed
invariant-loop-witnessed l = map (λ w. w.now) l.order.items ≡ map (λ w. w.now) l.initial.order.items ++ with_deaths (take l.witnessed-index l.outcomes) l.count
