use Rattle.std.proofs.Common.{◌∙◌, ap, map, Bool, List, [], ◌∷◌, ◌++◌}
use Rattle.explore_report.specs.Plans.{may_die}
use Rattle.explore_report.proofs.Loops.{item_more}
use Rattle.explore_report.proofs.planning.killable_of.Goals as goal

pub loop-before-preserved : goal.loop-before-preserved
loop-before-preserved c = item_more (may_die (map (λ w. w.now) c.args.named.now)) c.args.script.now.threads c.loop-before.before _ _ _ c.thread_name_at.ensures c.loop-before.invariant (c.in_ok-push.ensures.items ∙ ap (λ (b : Bool). c.loop-before.killable.items ++ b ∷ []) c.may_die.ensures)
