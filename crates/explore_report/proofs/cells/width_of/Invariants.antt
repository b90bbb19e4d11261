use Rattle.std.proofs.Common.{◌≡◌, map, drop}
use Rattle.explore_report.specs.Texts.{widest}
use Rattle.explore_report.proofs.cells.width_of.Given as goal

abbrev pub invariant-loop-witnessed : goal.invariant-loop-witnessed
invariant-loop-witnessed l = widest l.script l.column l.width (map (λ w. w.now) (drop l.witnessed-index l.outcomes)) ≡ widest l.script l.column 0 (map (λ w. w.now) l.outcomes)
