use Rattle.std.proofs.Common.{◌≡◌, ◌+◌, Ok, Some, arith, sym, ap, ◌∙◌, slice_index_or}
use Rattle.std.proofs.lemmas.Grind.{common_steps}
use Rattle.protocol.specs.declared.note.Note.TheVariants.{Began}
use Rattle.protocol.specs.Machine.{After, idle}
use Rattle.interleave.proofs.Views.{begin_ran, begin_state, thread_at-index}
use Rattle.interleave.proofs.threads.begin.Goals as goal

pub returns-in-Ok-clause-state : goal.returns-in-Ok-clause-state
returns-in-Ok-clause-state c = λ ws kernel.
    let k = c.as_index-index.result in
    let at : k + 1 ≡ c.args.thread = omega arith in
    let read : c.index.result.now ≡ slice_index_or c.args.threads.now.items k idle = grind (arith, common_steps) in
    begin_state c.args.layout.now ws kernel c.args.threads.now.items k c.args.thread c.args.op c.in-Ok.stage c.index.result.now (omega arith) (omega arith) at c.requires (sym c.if-not-may_begin.ensures)
    (thread_at-index c.args.threads.now.items k c.args.thread at ∙ sym read) (sym c.if-not-is_idle.ensures) (sym c.first_stage.ensures ∙ c.in-Ok.is)

pub returns-in-Err-clause-state : goal.returns-in-Err-clause-state
returns-in-Err-clause-state c = λ ws kernel.
    let k = c.as_index-index.result in
    let at : k + 1 ≡ c.args.thread = omega arith in
    let read : c.index.result.now ≡ slice_index_or c.args.threads.now.items k idle = grind (arith, common_steps) in
    sym (ap (λ (a : After). a.state) (begin_ran c.args.layout.now ws kernel c.args.threads.now.items c.args.thread c.args.op _ c.index.result.now (omega arith) (omega arith) (sym c.if-not-may_begin.ensures)
    (thread_at-index c.args.threads.now.items k c.args.thread at ∙ sym read) (sym c.if-not-is_idle.ensures) (sym c.first_stage.ensures ∙ c.in-Err.is)))

pub returns-in-Err-clause-note : goal.returns-in-Err-clause-note
returns-in-Err-clause-note c = λ ws kernel.
    let k = c.as_index-index.result in
    let at : k + 1 ≡ c.args.thread = omega arith in
    let read : c.index.result.now ≡ slice_index_or c.args.threads.now.items k idle = grind (arith, common_steps) in
    ap (λ b. Began c.args.thread b (Some c.in-Err.reply)) c.begun-call.ensures
    ∙ sym (ap (λ (a : After). a.note) (begin_ran c.args.layout.now ws kernel c.args.threads.now.items c.args.thread c.args.op _ c.index.result.now (omega arith) (omega arith) (sym c.if-not-may_begin.ensures)
    (thread_at-index c.args.threads.now.items k c.args.thread at ∙ sym read) (sym c.if-not-is_idle.ensures) (sym c.first_stage.ensures ∙ c.in-Err.is)))

pub returns-in-Ok-clause-note : goal.returns-in-Ok-clause-note
returns-in-Ok-clause-note c = λ ws kernel.
    let k = c.as_index-index.result in
    let at : k + 1 ≡ c.args.thread = omega arith in
    let read : c.index.result.now ≡ slice_index_or c.args.threads.now.items k idle = grind (arith, common_steps) in
    ap (λ b. Began c.args.thread b _) c.begun-call.ensures
    ∙ sym (ap (λ (a : After). a.note) (begin_ran c.args.layout.now ws kernel c.args.threads.now.items c.args.thread c.args.op (Ok c.in-Ok.stage) c.index.result.now (omega arith) (omega arith) (sym c.if-not-may_begin.ensures)
    (thread_at-index c.args.threads.now.items k c.args.thread at ∙ sym read) (sym c.if-not-is_idle.ensures) (sym c.first_stage.ensures ∙ c.in-Ok.is)))
