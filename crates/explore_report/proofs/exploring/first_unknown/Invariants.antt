use Rattle.std.proofs.Common.{◌≡◌, drop, map}
use Rattle.explore_report.specs.Told.{first_unknown}
use Rattle.explore_report.proofs.exploring.first_unknown.Given as goal

abbrev pub invariant-loop-name : goal.invariant-loop-name
invariant-loop-name l = first_unknown l.script (map (λ w. w.now) (drop l.name-index l.named)) ≡ first_unknown l.script (map (λ w. w.now) l.named)
