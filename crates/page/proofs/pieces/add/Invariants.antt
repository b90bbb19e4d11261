use Rattle.std.proofs.Common.{◌≡◌, ◌++◌, map, take}
use Rattle.std.specs.List.{concat}
use Rattle.std.specs.Prelude.{string_bytes}
use Rattle.page.proofs.pieces.add.Given as goal

abbrev pub invariant-loop-piece : goal.invariant-loop-piece
invariant-loop-piece l = string_bytes l.text ≡ string_bytes l.initial.text ++ concat (map (λ p. p.now) (take l.piece-index l.pieces))
