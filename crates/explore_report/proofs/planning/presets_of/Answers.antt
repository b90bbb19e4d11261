use Rattle.std.proofs.Common.{◌∙◌, map}
use Rattle.std.proofs.lemmas.Option.{slice_get-map}
use Rattle.explore_report.proofs.Loops.{item_more}
use Rattle.explore_report.proofs.planning.presets_of.Goals as goal

pub loop-condition-preserved : goal.loop-condition-preserved
loop-condition-preserved c = item_more (λ x. x.counter) (map (λ x. x.1) c.args.script.now.conditions) c.loop-condition.condition c.condition.result _ _ (slice_get-map (λ x. x.1) c.args.script.now.conditions c.loop-condition.condition ∙ c.condition.ensures) c.loop-condition.invariant c.in_ok-push.ensures.items
