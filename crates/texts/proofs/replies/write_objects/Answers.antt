use Rattle.texts.specs.Replies.{mutexes_text, conditions_text}
use Rattle.streams.proofs.Writers.{ends_at_first, then_leaves}
use Rattle.texts.proofs.replies.write_objects.Goals as goal

pub returns-in_err-write_mutexes : goal.returns-in_err-write_mutexes
returns-in_err-write_mutexes g c =
    ends_at_first _ _ c.from_residual.result (mutexes_text c.args.threads.now c.args.mutexes.now) (conditions_text c.args.conditions.now) c.from_residual.ensures.0 c.in_err-write_mutexes.ensures

pub returns : goal.returns
returns g c =
    then_leaves _ _ _ c.write_conditions.result (mutexes_text c.args.threads.now c.args.mutexes.now) (conditions_text c.args.conditions.now) c.in_ok-write_mutexes.ensures c.write_conditions.ensures
