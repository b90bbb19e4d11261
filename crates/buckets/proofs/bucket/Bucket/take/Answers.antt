use Rattle.std.proofs.Common.{◌∙◌, ◌≡◌, ℕ, ◌≤◌, [], ◌∷◌, length, ap, subst, arith}
use Rattle.buckets.specs.Queues.{Sleepers, standing, IsOrderly, Takes}
use Rattle.std.proofs.lemmas.List.{length-append}
use Rattle.buckets.specs.Rings.{row_of, sleeping_of}
use Rattle.buckets.proofs.Kept.{orderly_rings, all_counted, few_asleep}
use Rattle.buckets.proofs.Changes.{takes_none, takes_of_nobody, takes_more, takes_all}
use Rattle.buckets.proofs.bucket.Bucket.take.Goals as goal
use Rattle.lockword.specs.Threads.{most_threads}

pub returns-then-self-eq0-clause-changes : goal.returns-then-self-eq0-clause-changes
returns-then-self-eq0-clause-changes c =
    let b = c.self.inside in
    let xs = sleeping_of (row_of b.rows) b.rings.items in
    let none : length xs ≡ 0 = all_counted b.capacity b.standing (row_of b.rows) b.rings.items c.self.invariant.0 ∙ c.if-self-eq0.true in
    rw c.new-batch.ensures (subst (λ (s : Sleepers). Takes s s c.args.key.0 c.args.n []) c.self.view_is (takes_of_nobody b.capacity c.args.key.0 c.args.n xs none))

pub returns-then-self-eq0-clause-orderly : goal.returns-then-self-eq0-clause-orderly
returns-then-self-eq0-clause-orderly c = subst IsOrderly c.self.view_is (orderly_rings _ _ _ _ c.self.invariant.0)

pub loop-init : goal.loop-init
loop-init c = record {
  taken = rw c.new-batch.ensures (takes_none c.args.self.now c.args.key.0);
  orderly = subst IsOrderly c.self.view_is (orderly_rings _ _ _ _ c.self.invariant.0);
  as_many = ap length c.new-batch.ensures;
}

pub returns-in_default-clause-changes : goal.returns-in_default-clause-changes
returns-in_default-clause-changes c =
    takes_all _ _ _ c.args.key.0 c.loop.counter c.args.n c.loop.batch c.loop.auto.counter-end c.loop.invariant.taken c.in_default.ensures.changes

pub push-requires : goal.push-requires
push-requires c =
    let few : standing c.args.self.now ≤ most_threads = subst (λ (b : Sleepers). standing b ≤ most_threads) c.self.view_is (few_asleep _ _ _ _ c.self.invariant.0) in
    let before = c.loop.invariant.taken.fewer in
    let now = c.in-Some.ensures.changes.fewer in
    omega arith

pub loop-preserved : goal.loop-preserved
loop-preserved c = record {
  taken = rw c.push.ensures (takes_more _ _ _ c.args.key.0 c.loop.counter c.in-Some.thread c.loop.batch c.loop.invariant.taken c.in-Some.ensures.changes);
  orderly = c.take_first.ensures.orderly;
  as_many = let longer = length-append c.loop.batch (c.in-Some.thread ∷ []) in let is = ap length c.push.ensures in let before = c.loop.invariant.as_many in omega arith;
}

pub returns-clause-changes : goal.returns-clause-changes
returns-clause-changes c =
    let all : c.loop.counter ≡ c.args.n = omega (arith, c.loop.auto.counter-end, c.loop-test.false) in
    subst (λ (i : ℕ). Takes c.args.self.now c.loop.self c.args.key.0 i c.loop.batch) all c.loop.invariant.taken

pub returns-clause-orderly : goal.returns-clause-orderly
returns-clause-orderly c = c.loop.invariant.orderly
