use Rattle.std.proofs.Common.{◌≡◌, ◌++◌, map, take}
use Rattle.std.specs.List.{flat_map}
use Rattle.explore_report.specs.Texts.{others_text}
use Rattle.explore_report.proofs.telling.add_named.Given as goal

abbrev pub invariant-loop-name : goal.invariant-loop-name
invariant-loop-name l = l.text.items ≡ l.initial.text.items ++ flat_map others_text (map (λ w. w.now) (take l.name-index l.others))
