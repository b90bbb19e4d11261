use Rattle.std.proofs.Common.{ap, ◌∙◌, arith}
use Rattle.std.specs.Prelude.{slice_set}
use Rattle.certificates.specs.Walks.{became, mutex_after}
use Rattle.certificates.proofs.Behind.{read_mutex}
use Rattle.certificates.proofs.walk.decide.Goals as goal

pub returns-clause-mutexes : goal.returns-clause-mutexes
returns-clause-mutexes c =
    let d = c.args.decision.now in
    let ms = c.args.mutexes.now.items in
    let n = c.args.lines in
    let read = read_mutex ms c.from-at.result d.mutex c.index-old.result.now c.from-at.ensures (omega arith) c.index-old.ensures in
    ap (λ k. slice_set ms k c.became.result) c.from-at.ensures ∙ ap (slice_set ms d.mutex) (c.became.ensures ∙ ap (λ o. became c.index-old.result.now o n) c.stepped.ensures ∙ ap (λ k. mutex_after k d n) read)
