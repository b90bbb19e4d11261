use Rattle.std.proofs.Common.{ℕ, ◌+◌, ◌≤◌, ◌≡◌, Option, reverse, subst, ap, ◌∙◌, arith}
use Rattle.std.specs.Option.{SomeIff}
use Rattle.lockword.specs.Threads.{most_threads, named_threads}
use Rattle.certificates.specs.Waiters.{waiters_to}
use Rattle.certificates.proofs.Behind.{none_yet, one_further}
use Rattle.certificates.proofs.waiting.still_waiting.Goals as goal

pub loop-before-init : goal.loop-before-init
loop-before-init c = c.new-found.ensures.items ∙ none_yet (reverse c.args.steps.now)

pub loop-before-preserved : goal.loop-before-preserved
loop-before-preserved c =
    let k = c.loop-before.before in
    let es = reverse c.args.steps.now in
    let id = (subst (λ (o : Option ℕ). SomeIff o ((1 ≤ k + 1) × (k + 1 ≤ most_threads)) (k + 1)) c.unwrap-thread.ensures c.new.ensures).1 in
    one_further es k c.unwrap-thread.result c.loop-before.found.items _ c.waiter_of.result id c.loop-before.invariant (c.waiter_of.ensures es c.in_ok-walk.ensures.behind) c.in_ok-add.ensures

pub returns : goal.returns
returns c =
    let all : c.loop-before.before ≡ named_threads = omega arith in
    c.loop-before.invariant ∙ ap (λ n. waiters_to n (reverse c.args.steps.now)) all
