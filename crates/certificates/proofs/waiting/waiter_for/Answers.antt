use Rattle.std.proofs.Common.{arith, refl, sym, ◌∙◌}
use Rattle.certificates.proofs.Behind.{free, owned, read_mutex}
use Rattle.certificates.proofs.waiting.waiter_for.Goals as goal

pub returns-then-is_some : goal.returns-then-is_some
returns-then-is_some c = λ es b.
    let ms = c.args.walk.now.mutexes.items in
    owned c.args.thread c.args.begin c.args.mutex c.args.walk.now es c.index.result.now b (omega (arith, c.requires.mutexes))
    (read_mutex ms c.from.result c.args.mutex c.index.result.now c.from.ensures (omega (arith, c.requires.mutexes)) c.index.ensures) (sym c.is_some.ensures ∙ c.if-is_some.true)

pub returns : goal.returns
returns c = λ es b.
    let ms = c.args.walk.now.mutexes.items in
    free c.args.thread c.args.begin c.args.mutex c.args.walk.now es c.index.result.now _ b (omega (arith, c.requires.mutexes))
    (read_mutex ms c.from.result c.args.mutex c.index.result.now c.from.ensures (omega (arith, c.requires.mutexes)) c.index.ensures) (sym c.is_some.ensures ∙ c.if-is_some.false) refl
