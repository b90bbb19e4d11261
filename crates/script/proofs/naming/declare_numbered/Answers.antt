use Rattle.std.proofs.Common.{arith, sym, ◌∙◌}
use Rattle.script.proofs.Numbered.{one_more}
use Rattle.script.proofs.naming.declare_numbered.Goals as goal

pub loop-number-preserved : goal.loop-number-preserved
loop-number-preserved c =
    let small = c.ranges.count.fits in
    rw c.in_ok-insert.ensures.keys
    (one_more c.args.word.now c.loop-number.number-counter c.args.count c.args.names.now.keys c.loop-number.names.keys c.in_ok-format.field-0 c.in_ok-format.ensures.ok (omega arith) (omega arith) (sym c.clashes.ensures ∙ c.if-clashes.false) c.loop-number.invariant)
