use Rattle.std.proofs.Common.{◌≡◌, List, ℕ, Bor, [], get_or, subst}
use Rattle.std.specs.Io.KnownBytes.{Appends}
use Rattle.streams.specs.Leaves.{AppendsFront}
use Rattle.streams.proofs.Writers.{goes_on, stops_at}
use Rattle.streams.proofs.pieces.put.Goals as goal

abbrev nowhere : Bor (List ℕ)
nowhere = record { ref_ptr = (0, 0); now = [] }

pub returns-in_err-put_text : goal.returns-in_err-put_text
returns-in_err-put_text g c =
    let piece : c.as_bytes.result.now ≡ (get_or c.args.pieces.now c.loop-piece.piece-index nowhere).now = c.as_bytes.ensures.value in
    stops_at (λ p. p.now) c.args.pieces.now c.loop-piece.piece-index nowhere _ _ _ c.from_residual.result c.loop-piece-test.true c.from_residual.ensures.0 c.loop-piece.invariant (subst (AppendsFront _ _) piece c.in_err-put_text.ensures)

pub loop-piece-preserved : goal.loop-piece-preserved
loop-piece-preserved g c =
    let piece : c.as_bytes.result.now ≡ (get_or c.args.pieces.now c.loop-piece.piece-index nowhere).now = c.as_bytes.ensures.value in
    goes_on (λ p. p.now) c.args.pieces.now c.loop-piece.piece-index nowhere _ _ _ c.loop-piece-test.true c.loop-piece.invariant (subst (Appends _ _) piece c.in_ok-put_text.ensures)
