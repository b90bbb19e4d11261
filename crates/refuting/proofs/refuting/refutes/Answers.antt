use Rattle.std.proofs.Common.{◌<◌, length, sym, ap, subst, ◌∙◌, arith}
use Rattle.refuting.specs.Following.{Takes}
use Rattle.refuting.proofs.Going.{as_many, first, goes, stops}
use Rattle.refuting.proofs.refuting.refutes.Goals as goal

pub loop-at-init : goal.loop-at-init
loop-at-init c =
    first c.args.head.now.mutexes c.args.mutex c.args.lines.now c.in_ok-refuter.refuter c.in_ok-refuter.ensures.mutex (omega (arith, c.if-from-head.false, c.from.ensures)) c.in_ok-refuter.ensures.follows

pub index-requires : goal.index-requires
index-requires c =
    let lt : c.loop-at.at < length c.args.lines.now = omega (arith, c.loop-at-test.true) in
    subst (λ n. c.loop-at.at < n) (sym (c.in_ok-replies.replies.ok.0 ∙ ap length c.in_ok-replies.ensures ∙ as_many c.args.lines.now)) lt

pub returns-in-Ok-false : goal.returns-in-Ok-false
returns-in-Ok-false c = λ _.
    let lt : c.loop-at.at < length c.args.lines.now = omega (arith, c.loop-at-test.true) in
    stops c.args.head.now.mutexes c.args.mutex c.args.lines.now c.loop-at.at c.index-lines-at.result c.index-lines-at.result c.in_ok-replies.replies.items c.index.result.now c.index.result.now c.loop-at.refuter c.take.new.self c.loop-at.invariant lt (sym c.index-lines-at.is) c.in_ok-replies.ensures (sym c.index.ensures)
    (subst (λ b. Takes c.loop-at.refuter c.index-lines-at.result.entry c.index.result.now b c.take.new.self) c.in-Ok-false.field-0-test c.in-Ok-false.ensures)

pub loop-at-preserved : goal.loop-at-preserved
loop-at-preserved c =
    let lt : c.loop-at.at < length c.args.lines.now = omega (arith, c.loop-at-test.true) in
    goes c.args.head.now.mutexes c.args.mutex c.args.lines.now c.loop-at.at c.index-lines-at.result c.index-lines-at.result c.in_ok-replies.replies.items c.index.result.now c.index.result.now c.loop-at.refuter c.take.new.self c.loop-at.invariant lt (sym c.index-lines-at.is) c.in_ok-replies.ensures (sym c.index.ensures)
    (subst (λ b. Takes c.loop-at.refuter c.index-lines-at.result.entry c.index.result.now b c.take.new.self) c.in-Ok-true.field-0-test c.in-Ok-true.ensures)
