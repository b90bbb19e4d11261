use Rattle.std.proofs.Common.{ap, length, ◌∙◌}
use Rattle.std.proofs.Math.ListN.{length-replicate}
use Rattle.verdict.proofs.Owners.{all_alike}
use Rattle.certificates.specs.Walks.{idle, thread_at}
use Rattle.certificates.proofs.walk.idle.Goals as goal

pub returns-clause-count : goal.returns-clause-count
returns-clause-count c = ap length (c.in_ok-threads.ensures.items_if_clones_equal (λ y e. e)) ∙ length-replicate _ _

pub returns-clause-each : goal.returns-clause-each
returns-clause-each c = λ k. ap (λ xs. thread_at xs k) (c.in_ok-threads.ensures.items_if_clones_equal (λ y e. e)) ∙ all_alike _ idle k
