use Rattle.std.proofs.Common.{map, take}
use Rattle.std.specs.Prelude.{option_map}
use Rattle.grammar.proofs.Nearness.{IsBest}
use Rattle.grammar.proofs.near.nearest.Given as goal

abbrev pub invariant-loop-other : goal.invariant-loop-other
invariant-loop-other l = IsBest l.word (map (λ w. w.now) (take l.other-index l.known)) l.room (option_map (λ w. w.now) l.best)
