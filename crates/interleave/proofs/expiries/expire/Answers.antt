use Rattle.std.proofs.Common.{◌≡◌, ◌+◌, sym, ap, ◌∙◌, subst, arith, slice_index_or}
use Rattle.std.proofs.lemmas.Grind.{common_steps}
use Rattle.condvar.specs.declared.op.Op.{Op}
use Rattle.condvar.specs.declared.op.Op.TheVariants.{OnCondition}
use Rattle.protocol.specs.declared.thread.Thread.{Thread}
use Rattle.protocol.specs.declared.thread.Stage.TheVariants.{Calling}
use Rattle.protocol.specs.Machine.{idle}
use Rattle.interleave.specs.Shown.{thread_at}
use Rattle.interleave.specs.Steps.{IsOnItsWay}
use Rattle.interleave.proofs.Views.{thread_at-index}
use Rattle.interleave.proofs.expiries.expire.Goals as goal

pub expire_lock-requires-clause-stands : goal.expire_lock-requires-clause-stands
expire_lock-requires-clause-stands c =
    let ts = c.args.threads.now.items in
    let t = c.args.thread in
    let k = c.as_index.result in
    let at : k + 1 ≡ t = omega arith in
    let found : c.index.result.now ≡ slice_index_or ts k idle = grind (arith, common_steps) in
    ap (λ (z : Thread). z.stage) (thread_at-index ts k t at ∙ sym found) ∙ c.in-Calling.is ∙ ap (λ (o : Op). Calling o c.in-Calling.program) c.in-OnMutex.is

pub expire_wait-requires-clause-stands : goal.expire_wait-requires-clause-stands
expire_wait-requires-clause-stands c =
    let ts = c.args.threads.now.items in
    let t = c.args.thread in
    let k = c.as_index.result in
    let at : k + 1 ≡ t = omega arith in
    let found : c.index.result.now ≡ slice_index_or ts k idle = grind (arith, common_steps) in
    ap (λ (z : Thread). z.stage) (thread_at-index ts k t at ∙ sym found) ∙ c.in-Calling.is ∙ ap (λ (o : Op). Calling o c.in-Calling.program) c.in-OnCondition.is

pub expire_wait-requires-clause-inside : goal.expire_wait-requires-clause-inside
expire_wait-requires-clause-inside c =
    let ts = c.args.threads.now.items in
    let t = c.args.thread in
    let k = c.as_index.result in
    let at : k + 1 ≡ t = omega arith in
    let found : c.index.result.now ≡ slice_index_or ts k idle = grind (arith, common_steps) in
    let is : (thread_at ts t).stage ≡ Calling (OnCondition c.in-OnCondition.call) c.in-Calling.program =
    ap (λ (z : Thread). z.stage) (thread_at-index ts k t at ∙ sym found) ∙ c.in-Calling.is ∙ ap (λ (o : Op). Calling o c.in-Calling.program) c.in-OnCondition.is in
    (subst (IsOnItsWay c.args.layout.now) is (c.requires.goes (omega arith)).0).0

pub returns-in-OnCondition-clause-state : goal.returns-in-OnCondition-clause-state
returns-in-OnCondition-clause-state c = λ ws in_call. c.expire_wait.ensures.state ws

pub returns-in-OnCondition-clause-note : goal.returns-in-OnCondition-clause-note
returns-in-OnCondition-clause-note c = λ ws in_call. c.expire_wait.ensures.note ws
