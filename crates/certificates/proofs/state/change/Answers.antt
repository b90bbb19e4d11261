use Rattle.std.proofs.Common.{◌≡◌, ◌<◌, length, Option, IfSome, sym, subst, ◌∙◌, arith}
use Rattle.posixmutex.specs.declared.point.Decision.{Decision}
use Rattle.facts.specs.declared.fact.Fact.{Fact}
use Rattle.facts.specs.Facts.{thread_of}
use Rattle.verdict.specs.Earlier.{moved}
use Rattle.verdict.specs.Fits.{OwnsNothing}
use Rattle.verdict.specs.Judges.{object_at}
use Rattle.verdict.proofs.Owners.{held_some, owns_itself, read_number}
use Rattle.certificates.proofs.state.change.Goals as goal

pub returns-then-from-len-clause-moved : goal.returns-then-from-len-clause-moved
returns-then-from-len-clause-moved c = subst (λ (d : Option Decision). IfSome c.decide.result (λ x. object_at c.decide.new.objects.items ≡ moved (object_at c.args.objects.now.items) d)) c.in-Some.ensures c.decide.ensures.moved

pub returns-then-index-eq0-clause-reaped : goal.returns-then-index-eq0-clause-reaped
returns-then-index-eq0-clause-reaped c =
    let t = c.in-Reap.thread in
    let hs = c.args.held.now.items in
    let xs = c.args.objects.now.items in
    let is = c.in-Reap.is in
    let low : t < length hs = subst (λ (f : Fact). thread_of f < length hs) is c.requires.thread in
    let read = read_number hs c.from-in-Reap.result t c.index.result.now (c.from-in-Reap.ensures ∙ c.get.ensures.value) low c.index.ensures in
    let none : c.index.result.now ≡ 0 = c.if-index-eq0.true in
    let count = c.requires.counted t low in
    subst (OwnsNothing (length xs) (object_at xs)) (sym is)
    (λ m lt owner. absurd (omega (arith, read, none, count, held_some t (object_at xs) (length xs) m lt (owns_itself t (object_at xs m).owner owner))))
