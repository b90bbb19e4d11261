use Rattle.std.proofs.Common.{◌≡◌, drop, map, Ok}
use Rattle.explore_report.specs.Texts.{demanded}
use Rattle.explore_report.specs.Told.{both, demands_read}
use Rattle.explore_report.proofs.exploring.add_patterns.Given as goal

abbrev pub invariant-loop-words : goal.invariant-loop-words
invariant-loop-words l = both (Ok (map demanded l.demands.items)) (demands_read l.script l.always (map (λ w. w.now) (drop l.words-index l.patterns))) ≡ both (Ok (map demanded l.initial.demands.items)) (demands_read l.script l.always (map (λ w. w.now) l.patterns))
