use Rattle.std.proofs.Common.{◌≡◌, map}
use Rattle.std.specs.List.{range_with_len}
use Rattle.explore_report.specs.Texts.{widest}
use Rattle.explore_report.proofs.telling.widths_of.Given as goal

abbrev pub invariant-loop-column : goal.invariant-loop-column
invariant-loop-column l = l.widths.items ≡ map (λ i. widest l.script i 0 (map (λ w. w.now) l.outcomes)) (range_with_len 0 l.column)
