use Rattle.std.proofs.Common.{ap, length, ◌∙◌}
use Rattle.std.proofs.Math.ListN.{length-replicate}
use Rattle.std.specs.Prelude.{slice_index}
use Rattle.verdict.proofs.Owners.{all_alike}
use Rattle.certificates.proofs.state.untold.Goals as goal

pub returns-clause-count : goal.returns-clause-count
returns-clause-count c = ap length (c.in_ok-lines.ensures.items_if_clones_equal (λ y e. e)) ∙ length-replicate _ _

pub returns-clause-each : goal.returns-clause-each
returns-clause-each c = λ k. ap (λ xs. slice_index xs k) (c.in_ok-lines.ensures.items_if_clones_equal (λ y e. e)) ∙ all_alike _ 0 k
