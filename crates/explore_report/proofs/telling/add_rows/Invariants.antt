use Rattle.std.proofs.Common.{◌≡◌, ◌++◌, map, drop, length}
use Rattle.explore_report.specs.Texts.{rows_text}
use Rattle.explore_report.proofs.telling.add_rows.Given as goal

abbrev pub invariant-loop-witnessed : goal.invariant-loop-witnessed
invariant-loop-witnessed l = (l.place ≡ l.witnessed-index) × (l.text.items ++ rows_text l.script l.widths (length l.outcomes) l.place (map (λ w. w.now) (drop l.witnessed-index l.outcomes)) ≡ l.initial.text.items ++ rows_text l.script l.widths (length l.outcomes) 0 (map (λ w. w.now) l.outcomes))
