use Rattle.std.proofs.Common.{subst}
use Rattle.buckets.specs.Queues.{IsOrderly}
use Rattle.buckets.proofs.Kept.{orderly_rings}
use Rattle.buckets.proofs.Moves.{taken_once, fitting_nowhere}
use Rattle.buckets.proofs.bucket.Bucket.move_to.Goals as goal

pub enqueue_all-requires-clause-awake : goal.enqueue_all-requires-clause-awake
enqueue_all-requires-clause-awake c = fitting_nowhere _ _ c.args.other.now c.args.key.0 c.args.n c.take-moved.result c.requires.fits c.take-moved.ensures.changes

pub enqueue_all-requires-clause-once : goal.enqueue_all-requires-clause-once
enqueue_all-requires-clause-once c =
    let before = subst IsOrderly c.self.view_is (orderly_rings _ _ _ _ c.self.invariant.0) in
    taken_once _ _ c.args.key.0 c.args.n c.take-moved.result before c.take-moved.ensures.changes
