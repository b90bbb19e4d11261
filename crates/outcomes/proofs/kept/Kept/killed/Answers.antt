use Rattle.std.proofs.Common.{◌≡◌, ◌≤◌, ◌+◌, ℕ, suc, subst, arith, refl}
use Rattle.std.specs.Prelude.{if◌then◌else◌}
use Rattle.protocol.specs.Machine.{is_alive}
use Rattle.outcomes.specs.Positions.{killed_among}
use Rattle.outcomes.specs.Kept.{position_in}
use Rattle.outcomes.proofs.Lists.{few_killed, few_more, one_more_killed}
use Rattle.outcomes.proofs.kept.Kept.killed.Goals as goal

pub overflow_add-killed : goal.overflow_add-killed
overflow_add-killed c =
    let s = (position_in c.args.plan.now.layout c.args.self.now).state in
    let i = c.loop-before.before in
    let id : c.in-Some.thread ≡ suc i = (let e = c.in-Some.ensures.1 in omega arith) in
    let x : c.deaths-killed.result ≡ (if is_alive (s.threads (suc i)).stage then 0 else 1) = subst (λ (t : ℕ). c.deaths-killed.result ≡ (if is_alive (s.threads t).stage then 0 else 1)) id c.deaths-killed.ensures in
    let one = few_more s i c.deaths-killed.result x in
    let few = few_killed s i in
    let killed : c.loop-before.killed ≡ killed_among s i = c.loop-before.invariant in
    let below = c.loop-before-test.true in
    let last = c.threads-before-end.ensures.last in
    let count : c.loop-before.killed + c.deaths-killed.result ≤ 1000 = omega arith in
    omega arith

pub loop-before-preserved : goal.loop-before-preserved
loop-before-preserved c =
    let s = (position_in c.args.plan.now.layout c.args.self.now).state in
    let i = c.loop-before.before in
    let id : c.in-Some.thread ≡ suc i = (let e = c.in-Some.ensures.1 in omega arith) in
    let x : c.deaths-killed.result ≡ (if is_alive (s.threads (suc i)).stage then 0 else 1) = subst (λ (t : ℕ). c.deaths-killed.result ≡ (if is_alive (s.threads t).stage then 0 else 1)) id c.deaths-killed.ensures in
    one_more_killed s i c.loop-before.killed c.deaths-killed.result (c.loop-before.killed + c.deaths-killed.result) c.loop-before.invariant x refl
