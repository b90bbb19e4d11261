use Rattle.std.proofs.Common.{◌≡◌, map, take}
use Rattle.explore_report.specs.Plans.{may_die}
use Rattle.explore_report.proofs.planning.killable_of.Given as goal

abbrev pub invariant-loop-before : goal.invariant-loop-before
invariant-loop-before l = l.killable.items ≡ map (may_die (map (λ w. w.now) l.named)) (take l.before l.script.threads)
