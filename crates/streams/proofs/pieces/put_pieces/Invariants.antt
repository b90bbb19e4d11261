use Rattle.std.proofs.Common.{take}
use Rattle.std.specs.Io.KnownBytes.{Appends}
use Rattle.streams.specs.Pieces.{pieces_text}
use Rattle.streams.proofs.pieces.put_pieces.Given as goal

abbrev pub invariant-loop-piece : goal.invariant-loop-piece
invariant-loop-piece g l = Appends (g.W.Write.contents l.initial.out) (g.W.Write.contents l.out) (pieces_text (take l.piece-index l.pieces))
