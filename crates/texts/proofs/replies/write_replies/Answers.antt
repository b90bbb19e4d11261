use Rattle.texts.specs.Replies.{threads_text, objects_text}
use Rattle.streams.proofs.Writers.{ends_at_first, then_leaves}
use Rattle.texts.proofs.replies.write_replies.Goals as goal

pub returns-in_err-write_threads : goal.returns-in_err-write_threads
returns-in_err-write_threads g c =
    ends_at_first _ _ c.from_residual.result (threads_text c.args.threads.now) (objects_text c.args.threads.now c.args.mutexes.now c.args.conditions.now) c.from_residual.ensures.0 c.in_err-write_threads.ensures

pub returns : goal.returns
returns g c = then_leaves _ _ _ c.write_objects.result (threads_text c.args.threads.now) (objects_text c.args.threads.now c.args.mutexes.now c.args.conditions.now) c.in_ok-write_threads.ensures c.write_objects.ensures
