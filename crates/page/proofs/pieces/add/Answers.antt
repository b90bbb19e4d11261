use Rattle.std.specs.Prelude.{string_bytes}
use Rattle.picture.proofs.Columns.{adds_more, nowhere}
use Rattle.page.proofs.pieces.add.Goals as goal

pub loop-piece-preserved : goal.loop-piece-preserved
loop-piece-preserved c = adds_more (λ p. p.now) c.args.pieces.now c.loop-piece.piece-index nowhere (string_bytes c.args.text.now) (string_bytes c.loop-piece.text) (string_bytes c.push_str.new.self) c.loop-piece-test.true c.loop-piece.invariant c.in_ok-push_str.ensures.bytes
