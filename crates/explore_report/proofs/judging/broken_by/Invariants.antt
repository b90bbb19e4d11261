use Rattle.std.proofs.Common.{◌≡◌, map, drop}
use Rattle.explore_report.specs.Texts.{demanded, first_broken}
use Rattle.explore_report.proofs.judging.broken_by.Given as goal

abbrev pub invariant-loop-witnessed : goal.invariant-loop-witnessed
invariant-loop-witnessed l = (l.number ≡ l.witnessed-index) × (first_broken (demanded l.demand) l.number (map (λ w. w.now) (drop l.witnessed-index l.outcomes)) ≡ first_broken (demanded l.demand) 0 (map (λ w. w.now) l.outcomes))
