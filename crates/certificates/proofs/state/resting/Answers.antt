use Rattle.std.proofs.Common.{ap, length, ◌∙◌}
use Rattle.std.proofs.Math.ListN.{length-replicate}
use Rattle.certificates.specs.declared.phase.Phase.TheVariants.{Resting}
use Rattle.certificates.specs.States.{phase_at}
use Rattle.verdict.proofs.Owners.{all_alike}
use Rattle.certificates.proofs.state.resting.Goals as goal

pub returns-clause-count : goal.returns-clause-count
returns-clause-count c = ap length (c.in_ok-phases.ensures.items_if_clones_equal (λ y e. e)) ∙ length-replicate _ _

pub returns-clause-each : goal.returns-clause-each
returns-clause-each c = λ k. ap (λ xs. phase_at xs k) (c.in_ok-phases.ensures.items_if_clones_equal (λ y e. e)) ∙ all_alike _ Resting k
