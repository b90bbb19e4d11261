use Rattle.std.proofs.Common.{MatchOption, subst}
use Rattle.buckets.specs.Queues.{Stands, StandsNowhere}
use Rattle.threadbench.proofs.numbered.Held.left_by.Goals as goal

pub returns-clause-looks : goal.returns-clause-looks
returns-clause-looks c = subst
    (λ b. MatchOption c.look.result (Stands b c.args.thread) (λ g. StandsNowhere b c.args.thread))
    c.deref.ensures
    c.look.ensures.looks
