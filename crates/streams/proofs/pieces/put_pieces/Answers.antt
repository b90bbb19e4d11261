use Rattle.streams.specs.Pieces.{piece_text}
use Rattle.streams.proofs.Writers.{goes_on, stops_at}
use Rattle.streams.proofs.pieces.put_pieces.Goals as goal

pub returns-in_err-put_piece : goal.returns-in_err-put_piece
returns-in_err-put_piece g c =
    stops_at piece_text c.args.pieces.now c.loop-piece.piece-index _ _ _ _ c.from_residual.result c.loop-piece-test.true c.from_residual.ensures.0 c.loop-piece.invariant c.in_err-put_piece.ensures

pub loop-piece-preserved : goal.loop-piece-preserved
loop-piece-preserved g c =
    goes_on piece_text c.args.pieces.now c.loop-piece.piece-index _ _ _ _ c.loop-piece-test.true c.loop-piece.invariant c.in_ok-put_piece.ensures
