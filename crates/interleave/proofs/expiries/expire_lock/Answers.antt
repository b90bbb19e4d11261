use Rattle.std.proofs.Common.{◌≡◌, ◌+◌, ◌-◌, refl, sym, ap, ◌∙◌, arith, slice_index_or, slice_set}
use Rattle.std.proofs.lemmas.Grind.{common_steps}
use Rattle.mutex.specs.declared.call.Call.{Call}
use Rattle.condvar.specs.declared.op.Op.TheVariants.{OnMutex}
use Rattle.protocol.specs.declared.thread.Thread.{Thread}
use Rattle.protocol.specs.declared.thread.Stage.TheVariants.{Calling}
use Rattle.protocol.specs.Machine.{After, idle}
use Rattle.interleave.specs.Shown.{state_at, thread_at}
use Rattle.interleave.proofs.Views.{thread_at-index}
use Rattle.interleave.proofs.Expiring.{early_rests, stayed_state, stayed_note, lapsed_state, lapsed_note}
use Rattle.interleave.proofs.expiries.expire_lock.Goals as goal

pub returns-in_default-expired : goal.returns-in_default-expired
returns-in_default-expired c =
    let ts = c.args.threads.now.items in
    let t = c.args.thread in
    let p = c.args.program in
    let is = c.requires.stands ∙ ap (λ (x : Call). Calling (OnMutex x) p) c.in-Some.ensures in
    record {
      state = λ ws in_call. sym (ap (λ (a : After). a.state) (early_rests (state_at c.args.layout.now ws c.args.kernel.now ts) t c.in-Some.mutex p is c.in_default-expired.ensures));
      note = λ ws in_call. sym (ap (λ (a : After). a.note) (early_rests (state_at c.args.layout.now ws c.args.kernel.now ts) t c.in-Some.mutex p is c.in_default-expired.ensures));
      kernel = refl;
      heads = refl;
      threads = refl;
    }

pub returns-then-not-remove-clause-state : goal.returns-then-not-remove-clause-state
returns-then-not-remove-clause-state c = λ ws in_call.
    let ts = c.args.threads.now.items in
    let t = c.args.thread in
    let p = c.args.program in
    stayed_state c.args.layout.now ws c.args.kernel.now c.remove.new.self ts (t - 1) t c.in-Some.mutex p c.in-Some-expired.left (thread_at ts t) (omega arith) (omega arith) (omega arith) c.requires.threads refl (c.requires.stands ∙ ap (λ (x : Call). Calling (OnMutex x) p) c.in-Some.ensures) c.in-Some-expired.ensures in_call c.if-not-remove.ensures.changes

pub returns-then-not-remove-clause-note : goal.returns-then-not-remove-clause-note
returns-then-not-remove-clause-note c = λ ws in_call.
    let ts = c.args.threads.now.items in
    let t = c.args.thread in
    let p = c.args.program in
    stayed_note c.args.layout.now ws c.args.kernel.now c.remove.new.self ts (t - 1) t c.in-Some.mutex p c.in-Some-expired.left (thread_at ts t) (omega arith) (omega arith) (omega arith) c.requires.threads refl (c.requires.stands ∙ ap (λ (x : Call). Calling (OnMutex x) p) c.in-Some.ensures) c.in-Some-expired.ensures in_call c.if-not-remove.ensures.changes

pub returns-clause-state : goal.returns-clause-state
returns-clause-state c = λ ws in_call.
    let ts = c.args.threads.now.items in
    let t = c.args.thread in
    let k = c.as_index-index.result in
    let p = c.args.program in
    let at : k + 1 ≡ t = omega arith in
    let read : c.index.result.now ≡ slice_index_or ts k idle = grind (arith, common_steps) in
    let e = thread_at-index ts k t at ∙ sym read in
    (λ i. state_at c.args.layout.now ws c.remove.new.self (slice_set ts k (record { stage = Calling (OnMutex (c.in-Some.ensures i)) c.in-Some-expired.left; held = c.index.result.now.held })))
    ∙ lapsed_state c.args.layout.now ws c.args.kernel.now c.remove.new.self ts k t c.in-Some.mutex p c.in-Some-expired.left c.index.result.now (omega arith) (omega arith) at c.requires.threads e
    (sym (ap (λ (z : Thread). z.stage) e) ∙ c.requires.stands ∙ ap (λ (x : Call). Calling (OnMutex x) p) c.in-Some.ensures) c.in-Some-expired.ensures in_call c.if-not-remove.ensures.changes

pub returns-clause-note : goal.returns-clause-note
returns-clause-note c = λ ws in_call.
    let ts = c.args.threads.now.items in
    let t = c.args.thread in
    let k = c.as_index-index.result in
    let p = c.args.program in
    let at : k + 1 ≡ t = omega arith in
    let read : c.index.result.now ≡ slice_index_or ts k idle = grind (arith, common_steps) in
    let e = thread_at-index ts k t at ∙ sym read in
    lapsed_note c.args.layout.now ws c.args.kernel.now c.remove.new.self ts k t c.in-Some.mutex p c.in-Some-expired.left c.index.result.now (omega arith) (omega arith) at c.requires.threads e
    (sym (ap (λ (z : Thread). z.stage) e) ∙ c.requires.stands ∙ ap (λ (x : Call). Calling (OnMutex x) p) c.in-Some.ensures) c.in-Some-expired.ensures in_call c.if-not-remove.ensures.changes
