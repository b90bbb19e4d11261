use Rattle.std.proofs.Common.{◌≡◌, ◌≤◌, map, take}
use Rattle.picture.specs.Pieces.{less}
use Rattle.picture.proofs.pieces.room.Given as goal

abbrev pub invariant-loop-piece : goal.invariant-loop-piece
invariant-loop-piece l = record {
  value : l.left ≡ less l.columns (map (λ p. p.now) (take l.piece-index l.pieces));
  few : l.left ≤ l.columns;
}
