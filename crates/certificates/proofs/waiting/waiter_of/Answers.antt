use Rattle.std.proofs.Common.{◌≡◌, ◌<◌, None, Some, length, arith, ◌∙◌}
use Rattle.certificates.specs.Walks.{thread_at}
use Rattle.certificates.proofs.Behind.{doomed, locking, read_thread}
use Rattle.certificates.proofs.waiting.waiter_of.Goals as goal

pub returns-then-kept : goal.returns-then-kept
returns-then-kept c = λ es b.
    let ts = c.args.walk.now.threads.items in
    let t = c.args.thread in
    let inside : t < length ts = omega (arith, c.requires.threads, c.get.ensures.last, c.get.ensures.value) in
    let read : c.index-kept.result.now ≡ thread_at ts t = read_thread ts c.from.result t c.index-kept.result.now (c.from.ensures ∙ c.get.ensures.value) inside c.index-kept.ensures in
    doomed t c.args.walk.now es c.index-kept.result.now b inside read c.if-kept.true

pub returns-in_err-mutex : goal.returns-in_err-mutex
returns-in_err-mutex c = λ es b.
    let ts = c.args.walk.now.threads.items in
    let t = c.args.thread in
    let inside : t < length ts = omega (arith, c.requires.threads, c.get.ensures.last, c.get.ensures.value) in
    let read : c.index-kept.result.now ≡ thread_at ts t = read_thread ts c.from.result t c.index-kept.result.now (c.from.ensures ∙ c.get.ensures.value) inside c.index-kept.ensures in
    locking t c.args.walk.now es c.index-kept.result.now None c.from_residual.result b inside read c.if-kept.false (c.in_err-mutex.was {u = tt}) c.from_residual.ensures

pub returns : goal.returns
returns c = λ es b.
    let ts = c.args.walk.now.threads.items in
    let t = c.args.thread in
    let inside : t < length ts = omega (arith, c.requires.threads, c.get.ensures.last, c.get.ensures.value) in
    let read : c.index-kept.result.now ≡ thread_at ts t = read_thread ts c.from.result t c.index-kept.result.now (c.from.ensures ∙ c.get.ensures.value) inside c.index-kept.ensures in
    locking t c.args.walk.now es c.index-kept.result.now (Some c.in_ok-mutex.mutex) c.waiter_for.result b inside read c.if-kept.false c.in_ok-mutex.was (c.waiter_for.ensures es b)
