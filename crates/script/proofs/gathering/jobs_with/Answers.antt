use Rattle.std.proofs.Common.{◌+◌, ◌≤◌, length, sym, ◌∙◌, subst, arith, rules, ℕ, Option}
use Rattle.std.specs.Option.{SomeIff}
use Rattle.script.specs.Jobs.{lists_seen}
use Rattle.script.proofs.Phases.{far_first, room, turned_some, turned_none, turned_all}
use Rattle.script.proofs.gathering.jobs_with.Goals as goal
use Rattle.lockword.specs.Threads.{most_threads}

pub loop-calls-init : goal.loop-calls-init
loop-calls-init c = rw (c.new-jobs.ensures.items, c.into_iter-calls-iterator.ensures.into_iter_gives.0) (far_first (lists_seen c.args.calls.items))

pub overflow_add-id : goal.overflow_add-id
overflow_add-id c = let few = room c.args.calls.items c.loop-calls.calls-iterator.rest.items c.next.new.self.rest.items c.in-Some.calls _ c.loop-calls.id c.loop-calls.invariant c.in-Some.ensures.steps.0 in omega (arith, c.requires)

pub unwrap-thread-requires : goal.unwrap-thread-requires
unwrap-thread-requires c = let few : c.loop-calls.id + 1 ≤ length c.args.calls.items = room c.args.calls.items c.loop-calls.calls-iterator.rest.items c.next.new.self.rest.items c.in-Some.calls _ c.loop-calls.id c.loop-calls.invariant c.in-Some.ensures.steps.0 in let small = c.requires in search rules

pub loop-calls-preserved-in-Continue-1 : goal.loop-calls-preserved-in-Continue-1
loop-calls-preserved-in-Continue-1 c =
    let new = subst (λ (o : Option ℕ). SomeIff o ((1 ≤ c.loop-calls.id + 1) × (c.loop-calls.id + 1 ≤ most_threads)) (c.loop-calls.id + 1)) c.unwrap-thread.ensures c.new.ensures in
    rw c.in_ok-push.ensures.items
    (turned_some c.args.calls.items c.loop-calls.calls-iterator.rest.items c.next.new.self.rest.items c.in-Some.calls c.loop-calls.jobs.items c.loop-calls.id c.loop-calls.invariant c.in-Some.ensures.steps.0 (sym c.is_empty.ensures ∙ c.if-not-is_empty.true) c.unwrap-thread.result new.1)

pub loop-calls-preserved : goal.loop-calls-preserved
loop-calls-preserved c = turned_none c.args.calls.items c.loop-calls.calls-iterator.rest.items c.next.new.self.rest.items c.in-Some.calls c.loop-calls.jobs.items c.loop-calls.id c.loop-calls.invariant c.in-Some.ensures.steps.0 (sym c.is_empty.ensures ∙ c.if-not-is_empty.false)

pub returns : goal.returns
returns c = λ n cs a. turned_all c.args.calls.items c.loop-calls.calls-iterator.rest.items c.loop-calls.jobs.items c.loop-calls.id n cs c.loop-calls.invariant (sym c.loop-calls.calls-iterator.rest.ok.0 ∙ c.in-None.ensures.steps.0) a
