use Rattle.std.proofs.Common.{◌≡◌, ◌++◌, get_or}
use Rattle.std.specs.List.{flat_map, range_with_len}
use Rattle.explore_report.specs.Texts.{cell_at, padded}
use Rattle.explore_report.proofs.telling.add_cells.Given as goal

abbrev pub invariant-loop-column : goal.invariant-loop-column
invariant-loop-column l = l.text.items ≡ l.initial.text.items ++ flat_map (λ i. padded (get_or l.widths i 0) (cell_at l.script l.outcome i)) (range_with_len 0 l.column)
