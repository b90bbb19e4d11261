use Rattle.std.proofs.Common.{List, reverse, ap, subst, ◌∙◌}
use Rattle.histories.specs.declared.entry.HistoryLine.{HistoryLine}
use Rattle.histories.specs.Histories.{LegalHistory}
use Rattle.certificates.specs.Certificates.{entries}
use Rattle.judge.proofs.replies.could_be_told.Goals as goal

pub returns-in-Ok : goal.returns-in-Ok
returns-in-Ok c = λ yes.
    subst (LegalHistory c.args.head.now.mutexes) (ap (λ (ls : List HistoryLine). reverse (entries ls)) c.deref.ensures.value ∙ c.in_ok-told.ensures) (c.in-Ok.ensures yes)
