use Rattle.std.proofs.Common.{◌≡◌, ℕ, true, false, refl, sym, ap, ◌∙◌, subst, arith}
use Rattle.std.proofs.lemmas.Grind.{common_steps}
use Rattle.condvar.specs.Ops.{mutex_of}
use Rattle.condvar.specs.declared.op.Op.TheVariants.{OnCondition}
use Rattle.protocol.specs.declared.thread.Stage.TheVariants as stage
use Rattle.protocol.specs.Machine.{State, is_left_to, wakes_next, wakes_one}
use Rattle.interleave.specs.declared.calls.InCall.TheVariants.{Calling, AtCondition}
use Rattle.interleave.specs.Shown.{state_at, thread_at}
use Rattle.interleave.specs.Steps.{IsOnItsWay}
use Rattle.interleave.proofs.Sparing.{stands_there, rests, fails_first, fails_second}
use Rattle.interleave.proofs.spares.spare.Goals.{In-Calling, In-AtCondition}
use Rattle.interleave.proofs.spares.spare.Goals as goal

-- it is in a call on a mutex
calls : (c : In-Calling) → (thread_at c.args.threads.now.items c.args.thread).stage ≡ stage.Calling c.in-Calling.op c.in-Calling.program
calls c = stands_there c.args.threads.now.items c.as_index.result c.args.thread c.index.result.now _ (omega arith) (grind (arith, common_steps)) c.in-Calling.is

-- in one on a condition variable
waits : (c : In-AtCondition) → (thread_at c.args.threads.now.items c.args.thread).stage ≡ stage.AtCondition c.in-AtCondition.call c.in-AtCondition.program
waits c = stands_there c.args.threads.now.items c.as_index.result c.args.thread c.index.result.now _ (omega arith) (grind (arith, common_steps)) c.in-AtCondition.is

pub mutex_of-mutex-requires : goal.mutex_of-mutex-requires
mutex_of-mutex-requires c = (subst (IsOnItsWay c.args.layout.now) (calls (goal.at.mutex_of-mutex-requires c).In-Calling) (c.requires.goes c.args.thread (omega arith) (omega arith)).0).0

pub mutex_of-mutex-requires-in-AtCondition : goal.mutex_of-mutex-requires-in-AtCondition
mutex_of-mutex-requires-in-AtCondition c = (subst (IsOnItsWay c.args.layout.now) (waits (goal.at.mutex_of-mutex-requires-in-AtCondition c).In-AtCondition) (c.requires.goes c.args.thread (omega arith) (omega arith)).0).0

pub returns-then-not-wakes_one : goal.returns-then-not-wakes_one
returns-then-not-wakes_one c =
    let s : State = state_at c.args.layout.now c.args.memory.now c.args.kernel.now c.args.threads.now.items in
    let wakes : wakes_one c.in-Calling.program.phase ≡ false = sym (c.wakes_one.ensures ∙ ap wakes_one c.phase.ensures) ∙ c.if-not-wakes_one.true in
    let none = rests s c.args.thread c.args.by (Calling c.in-Calling.op c.in-Calling.program) (calls (goal.at.returns-then-not-wakes_one c).In-Calling) (fails_first _ _ wakes) in
    record { state = none.0; note = none.1; threads = refl }

pub returns-then-not-wakes_next : goal.returns-then-not-wakes_next
returns-then-not-wakes_next c =
    let s : State = state_at c.args.layout.now c.args.memory.now c.args.kernel.now c.args.threads.now.items in
    let wakes : wakes_next c.in-AtCondition.program.phase ≡ false = sym (c.wakes_next.ensures ∙ ap wakes_next c.phase-in-AtCondition.ensures) ∙ c.if-not-wakes_next.true in
    let none = rests s c.args.thread c.args.by (AtCondition c.in-AtCondition.call c.in-AtCondition.program) (waits (goal.at.returns-then-not-wakes_next c).In-AtCondition) (fails_first _ _ wakes) in
    record { state = none.0; note = none.1; threads = refl }

pub returns-then-not-is_left_to : goal.returns-then-not-is_left_to
returns-then-not-is_left_to c =
    let l = c.args.layout.now in
    let s : State = state_at l c.args.memory.now c.args.kernel.now c.args.threads.now.items in
    let another : is_left_to s c.args.thread (mutex_of l c.in-Calling.op) c.args.by ≡ false = sym (c.is_left_to.ensures c.requires.sleeps ∙ ap (λ (m : ℕ). is_left_to s c.args.thread m c.args.by) c.mutex_of-mutex.ensures.value) ∙ c.if-not-is_left_to.true in
    let none = rests s c.args.thread c.args.by (Calling c.in-Calling.op c.in-Calling.program) (calls (goal.at.returns-then-not-is_left_to c).In-Calling) (fails_second _ _ another) in
    record { state = none.0; note = none.1; threads = refl }

pub returns-then-not-is_left_to-2 : goal.returns-then-not-is_left_to-2
returns-then-not-is_left_to-2 c =
    let l = c.args.layout.now in
    let s : State = state_at l c.args.memory.now c.args.kernel.now c.args.threads.now.items in
    let another : is_left_to s c.args.thread (mutex_of l (OnCondition c.in-AtCondition.call)) c.args.by ≡ false = sym (c.is_left_to-in-AtCondition.ensures c.requires.sleeps ∙ ap (λ (m : ℕ). is_left_to s c.args.thread m c.args.by) c.mutex_of-mutex-in-AtCondition.ensures.value) ∙ c.if-not-is_left_to-2.true in
    let none = rests s c.args.thread c.args.by (AtCondition c.in-AtCondition.call c.in-AtCondition.program) (waits (goal.at.returns-then-not-is_left_to-2 c).In-AtCondition) (fails_second _ _ another) in
    record { state = none.0; note = none.1; threads = refl }

pub returns-else-not-is_left_to : goal.returns-else-not-is_left_to
returns-else-not-is_left_to c =
    let l = c.args.layout.now in
    let s : State = state_at l c.args.memory.now c.args.kernel.now c.args.threads.now.items in
    let another : is_left_to s c.args.thread (mutex_of l c.in-Calling.op) c.args.by ≡ true = sym (c.is_left_to.ensures c.requires.sleeps ∙ ap (λ (m : ℕ). is_left_to s c.args.thread m c.args.by) c.mutex_of-mutex.ensures.value) ∙ c.if-not-is_left_to.false in
    let spares = c.spare_unlock.ensures in
    record { state = spares.state c.args.memory.now c.args.kernel.now another; note = spares.note c.args.memory.now c.args.kernel.now another; threads = spares.threads }

pub returns-else-not-is_left_to-2 : goal.returns-else-not-is_left_to-2
returns-else-not-is_left_to-2 c =
    let l = c.args.layout.now in
    let s : State = state_at l c.args.memory.now c.args.kernel.now c.args.threads.now.items in
    let another : is_left_to s c.args.thread (mutex_of l (OnCondition c.in-AtCondition.call)) c.args.by ≡ true = sym (c.is_left_to-in-AtCondition.ensures c.requires.sleeps ∙ ap (λ (m : ℕ). is_left_to s c.args.thread m c.args.by) c.mutex_of-mutex-in-AtCondition.ensures.value) ∙ c.if-not-is_left_to-2.false in
    let spares = c.spare_wait.ensures in
    record { state = spares.state c.args.memory.now c.args.kernel.now another; note = spares.note c.args.memory.now c.args.kernel.now another; threads = spares.threads }
