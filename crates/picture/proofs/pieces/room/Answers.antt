use Rattle.std.proofs.Common.{◌-◌, length, get_or, sym, ap, ◌∙◌, arith}
use Rattle.picture.proofs.Columns.{less_more, nowhere}
use Rattle.picture.proofs.pieces.room.Goals as goal

pub loop-piece-preserved : goal.loop-piece-preserved
loop-piece-preserved c =
    let i = c.loop-piece.invariant in
    record {
      value = c.saturating_sub-left.ensures ∙ ap (λ n. n - length (get_or c.args.pieces.now c.loop-piece.piece-index nowhere).now) i.value ∙ sym (less_more (λ p. p.now) c.args.pieces.now c.loop-piece.piece-index c.args.columns nowhere c.loop-piece-test.true);
      few = omega (arith, i.few, c.saturating_sub-left.ensures);
    }
