use Rattle.std.proofs.Common.{subst, arith}
use Rattle.buckets.specs.Queues.{IsOrderly}
use Rattle.buckets.proofs.Kept.{orderly_rings}
use Rattle.buckets.proofs.Moves.{taken_once, taken_nowhere, moves_within}
use Rattle.buckets.proofs.bucket.Bucket.move_within.Goals as goal

pub enqueue_all-requires-clause-room : goal.enqueue_all-requires-clause-room
enqueue_all-requires-clause-room c =
    let before : IsOrderly c.args.self.now = subst IsOrderly c.self.view_is (orderly_rings _ _ _ _ c.self.invariant.0) in
    let room = before.room in
    let fewer = c.take-moved.ensures.changes.fewer in
    let same = c.take-moved.ensures.changes.capacity in
    omega arith

pub enqueue_all-requires-clause-awake : goal.enqueue_all-requires-clause-awake
enqueue_all-requires-clause-awake c =
    let before = subst IsOrderly c.self.view_is (orderly_rings _ _ _ _ c.self.invariant.0) in
    taken_nowhere _ _ c.args.key.0 c.args.n c.take-moved.result before c.take-moved.ensures.changes

pub enqueue_all-requires-clause-once : goal.enqueue_all-requires-clause-once
enqueue_all-requires-clause-once c =
    let before = subst IsOrderly c.self.view_is (orderly_rings _ _ _ _ c.self.invariant.0) in
    taken_once _ _ c.args.key.0 c.args.n c.take-moved.result before c.take-moved.ensures.changes

pub returns-clause-changes : goal.returns-clause-changes
returns-clause-changes c = moves_within _ _ _ c.args.key.0 c.args.n c.args.to.0 c.take-moved.result c.requires.apart c.take-moved.ensures.changes c.enqueue_all.ensures.changes
