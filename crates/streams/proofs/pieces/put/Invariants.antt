use Rattle.std.proofs.Common.{take, map}
use Rattle.std.specs.List.{concat}
use Rattle.std.specs.Io.KnownBytes.{Appends}
use Rattle.streams.proofs.pieces.put.Given as goal

abbrev pub invariant-loop-piece : goal.invariant-loop-piece
invariant-loop-piece g l = Appends (g.W.Write.contents l.initial.out) (g.W.Write.contents l.out) (concat (map (λ p. p.now) (take l.piece-index l.pieces)))
