use Rattle.std.proofs.Common.{◌++◌, ◌∷◌, [], refl, ap, ◌∙◌}
use Rattle.std.proofs.Math.ListN.{length-replicate}
use Rattle.refuting.specs.States.{ids, first_call}
use Rattle.refuting.proofs.Beginning.{begins}
use Rattle.refuting.proofs.refuter.Refuter.new.Goals as goal

pub returns-clause-follows : goal.returns-clause-follows
returns-clause-follows c =
    begins _ c.resting-turns.ensures.count c.owning_nothing.ensures.count c.owning_nothing.ensures.each c.resting-turns.ensures.each _ (c.in_ok-push.ensures.items ∙ ap (λ ss. ss ++ _ ∷ []) c.new-states.ensures.items)
    (record { object = refl; long = length-replicate ids first_call; calls = λ t. tt })
