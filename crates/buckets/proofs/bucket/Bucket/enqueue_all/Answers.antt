use Rattle.std.proofs.Common.{◌∙◌, ◌+◌, take, sym, subst, arith}
use Rattle.buckets.specs.Queues.{Sleepers, IsOrderly, Joins}
use Rattle.buckets.proofs.Kept.{orderly_rings}
use Rattle.buckets.proofs.Moves.{somebody, joins_none, joins_more, next_nowhere}
use Rattle.buckets.proofs.bucket.Bucket.enqueue_all.Goals as goal
use Rattle.buckets.proofs.bucket.Bucket.enqueue_all.Goals.{in-Some, in_default}

pub loop-place-init : goal.loop-place-init
loop-place-init c = record {
  joined = joins_none c.args.self.now c.args.key.0;
  orderly = subst IsOrderly c.self.view_is (orderly_rings _ _ _ _ c.self.invariant.0);
}

pub enqueue-requires-clause-awake : goal.enqueue-requires-clause-awake
enqueue-requires-clause-awake c =
    next_nowhere c.args.self.now c.loop-place.self c.args.threads.now c.loop-place.place c.in-Some.next c.args.key.0 (sym c.get.ensures ∙ c.in-Some.is) c.requires.awake c.requires.once c.loop-place.invariant.joined

pub loop-place-preserved : goal.loop-place-preserved
loop-place-preserved c = elim c.match-get.branch [
  | in-Some w ↦ record {
    joined = subst (λ (b : Sleepers). Joins c.args.self.now b (take (c.loop-place.place + 1) c.args.threads.now) c.args.key.0) (sym w.self-is)
        (joins_more c.args.self.now c.loop-place.self w.enqueue.new.self c.args.threads.now c.loop-place.place w.in-Some.next c.args.key.0 (sym c.get.ensures ∙ w.in-Some.is) c.loop-place.invariant.joined w.enqueue.ensures.changes);
    orderly = subst IsOrderly (sym w.self-is) w.enqueue.ensures.orderly;
  }
  | in_default w ↦ absurd (somebody c.args.threads.now c.loop-place.place c.get.result c.get.ensures (omega (arith, c.loop-place-test.true, c.len-place-end.ensures.value)) w.in_default.is)
]
