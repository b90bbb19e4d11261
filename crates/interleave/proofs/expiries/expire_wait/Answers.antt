use Rattle.std.proofs.Common.{◌≡◌, ◌+◌, ℕ, true, sym, ap, ◌∙◌, subst, arith, slice_index_or, slice_set}
use Rattle.std.proofs.lemmas.Grind.{common_steps}
use Rattle.memorymap.specs.Layouts.{counter_place}
use Rattle.condvar.specs.declared.call.CondCall.{CondCall}
use Rattle.condvar.specs.Calls.{condition_of}
use Rattle.condvar.specs.declared.op.Op.TheVariants.{OnCondition}
use Rattle.syscalls.specs.Kernels.{queue_of}
use Rattle.protocol.specs.declared.thread.Thread.{Thread}
use Rattle.protocol.specs.declared.thread.Stage.TheVariants.{Calling}
use Rattle.protocol.specs.Machine.{idle, stands_in}
use Rattle.interleave.specs.Shown.{state_at}
use Rattle.interleave.proofs.Views.{thread_at-index}
use Rattle.interleave.proofs.Expiring.{some_late, overslept_state}
use Rattle.interleave.proofs.expiries.expire_wait.Goals as goal

pub returns-clause-state : goal.returns-clause-state
returns-clause-state c = λ ws.
    let ts = c.args.threads.now.items in
    let t = c.args.thread in
    let k = c.as_index-index.result in
    let p = c.args.program in
    let late = some_late c.args.call c.in-Some.late c.in-Some.ensures in
    let at : k + 1 ≡ t = omega arith in
    let read : c.index.result.now ≡ slice_index_or ts k idle = grind (arith, common_steps) in
    let e = thread_at-index ts k t at ∙ sym read in
    let same : c.condition-condition.result ≡ late.0 = c.condition-condition.ensures ∙ ap condition_of late.2 in
    let stands : stands_in t (queue_of c.args.kernel.now (counter_place c.args.layout.now c.condition-condition.result)) ≡ true =
    sym (c.stands_in.ensures ∙ ap (stands_in t) (c.sleepers.ensures.value ∙ ap (queue_of c.args.kernel.now) c.counter.ensures.value)) ∙ c.if-not-stands_in.false in
    let there : stands_in t (queue_of c.args.kernel.now (counter_place c.args.layout.now late.0)) ≡ true =
    subst (λ (j : ℕ). stands_in t (queue_of c.args.kernel.now (counter_place c.args.layout.now j)) ≡ true) same stands in
    (λ i. state_at c.args.layout.now ws c.remove.new.self (slice_set ts k (record { stage = Calling (OnCondition (late.3 i)) p; held = c.index.result.now.held })))
    ∙ overslept_state c.args.layout.now ws c.args.kernel.now c.remove.new.self ts k t late.0 late.1 p c.index.result.now (omega arith) (omega arith) at c.requires.threads e
    (sym (ap (λ (z : Thread). z.stage) e) ∙ c.requires.stands ∙ ap (λ (x : CondCall). Calling (OnCondition x) p) late.2) c.remove.result c.remove.ensures.changes (sym there)
