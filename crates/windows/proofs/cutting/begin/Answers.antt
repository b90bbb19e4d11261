use Rattle.std.proofs.Common.{length, subst}
use Rattle.windows.specs.Places.{Reaches, told}
use Rattle.windows.proofs.Places.{alike}
use Rattle.windows.proofs.cutting.begin.Goals as goal

pub returns-then-are_alike-clause-joins : goal.returns-then-are_alike-clause-joins
returns-then-are_alike-clause-joins c = λ lines there.
    let before = c.in_ok-before.before.items in
    let same = c.are_alike.ensures in
    let reached = c.in_ok-reached.reached in
    alike reached c.args.state.now (told (length before) before) lines
    (subst (λ es. Reaches reached (told (length es) es)) c.deref.ensures.value c.in_ok-reached.ensures.there)
    there (same.phases c.if-are_alike.true) (same.objects c.if-are_alike.true) (same.waits c.if-are_alike.true)
