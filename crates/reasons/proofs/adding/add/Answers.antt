use Rattle.reasons.proofs.Pieces.{one_piece}
use Rattle.reasons.proofs.adding.add.Goals as goal

pub loop-piece-preserved : goal.loop-piece-preserved
loop-piece-preserved c = one_piece (λ p. p.now) c.args.pieces.now c.loop-piece.piece-index _ c.args.text.now.items c.loop-piece.text.items c.extend_from_slice.new.self.items c.as_bytes.result.now c.loop-piece-test.true c.loop-piece.invariant c.as_bytes.ensures.value c.in_ok-extend_from_slice.ensures.items
