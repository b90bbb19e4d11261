use Rattle.std.proofs.Common.{◌∙◌, ap, ◌++◌, ℕ, get_or}
use Rattle.explore_report.specs.Texts.{cell_at, padded}
use Rattle.explore_report.proofs.Loops.{text_more}
use Rattle.explore_report.proofs.telling.add_cells.Goals as goal

pub loop-column-preserved : goal.loop-column-preserved
loop-column-preserved c = text_more (λ i. padded (get_or c.args.widths.now i 0) (cell_at c.args.script.now c.args.outcome.now i)) c.loop-column.column _ _ _ c.loop-column.invariant (c.in_ok-add_padded.ensures ∙ ap (λ (k : ℕ). c.loop-column.text.items ++ padded (get_or c.args.widths.now k 0) (cell_at c.args.script.now c.args.outcome.now c.loop-column.column)) c.from-in-loop-column.ensures)
