use Rattle.std.proofs.Common.{◌≡◌, ◌<◌, suc, List, sym, ap, ◌∙◌, arith, length}
use Rattle.protocol.specs.declared.thread.Thread.{Thread}
use Rattle.interleave.specs.Shown.{thread_at}
use Rattle.outcomes.specs.Positions.{rests}
use Rattle.outcomes.specs.Kept.{position_in}
use Rattle.outcomes.proofs.Lists.{one_busy, thread_is}
use Rattle.outcomes.proofs.kept.Kept.all_rest.Goals as goal

pub returns-then-not-rests : goal.returns-then-not-rests
returns-then-not-rests c =
    let s = (position_in c.args.plan.now.layout c.args.self.now).state in
    let i = c.loop-thread.thread-index in
    let is : thread_at c.args.self.now.saved.threads.items (suc i) ≡ c.thread-item.result = thread_is c.args.self.now.saved.threads.items c.deref-thread-items.result.now i c.thread-item.result c.deref-thread-items.ensures.value c.loop-thread-test.true c.thread-item.is in
    let lt : i < c.args.plan.now.layout.threads = (let n = ap (λ (ts : List Thread). length ts) c.deref-thread-items.ensures.value in let m = c.requires in let below = c.loop-thread-test.true in omega arith) in
    sym (one_busy s i c.args.plan.now.layout.threads lt (ap (λ (th : Thread). rests th.stage) is ∙ sym c.rests.ensures ∙ c.if-not-rests.true))
