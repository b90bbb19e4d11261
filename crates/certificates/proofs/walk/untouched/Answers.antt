use Rattle.std.proofs.Common.{None, ap, length, ◌∙◌}
use Rattle.std.proofs.Math.ListN.{length-replicate, replicate}
use Rattle.posixmutex.specs.declared.object.Object.{Object}
use Rattle.verdict.proofs.Owners.{all_alike}
use Rattle.certificates.specs.Walks.{mutex_at, untouched}
use Rattle.certificates.proofs.walk.untouched.Goals as goal

pub returns-clause-count : goal.returns-clause-count
returns-clause-count c = ap length (c.in_ok-mutexes.ensures.items_if_clones_equal (λ y e. e)) ∙ length-replicate _ _

pub returns-clause-each : goal.returns-clause-each
returns-clause-each c = λ k.
    ap (λ xs. mutex_at xs k) (c.in_ok-mutexes.ensures.items_if_clones_equal (λ y e. e))
    ∙ ap (λ (o : Object). mutex_at (replicate c.args.count (record { object = o; since = None })) k) c.new.ensures ∙ all_alike _ untouched k
