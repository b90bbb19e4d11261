use Rattle.std.proofs.Common.{◌≡◌, ◌++◌, map, take}
use Rattle.explain.specs.Texts.{known_text}
use Rattle.explain.proofs.telling.add_known.Given as goal

abbrev pub invariant-loop-word : goal.invariant-loop-word
invariant-loop-word l = l.text.items ≡ l.initial.text.items ++ known_text (map (λ w. w.now) (take l.word-index l.words))
