use Rattle.std.proofs.Common.{◌==◌, ◌∙◌, true, false, refl, sym}
use Rattle.std.specs.Prelude.{slice_index}
use Rattle.protocol.specs.Machine.{State, answers, is_asleep}
use Rattle.interleave.specs.Shown.{state_at}
use Rattle.interleave.proofs.Sleeping.{told_asleep}
use Rattle.interleave.proofs.Sparing.{asleep_fails, other_holds, differs}
use Rattle.interleave.proofs.spares.other_answers.Goals as goal

pub returns-then-asleep : goal.returns-then-asleep
returns-then-asleep c = λ ts in_call.
    let s : State = state_at c.args.layout.now c.args.memory.now c.args.kernel.now ts in
    asleep_fails (c.args.other == c.args.thread) (is_asleep s c.args.other) (answers c.args.layout.now (λ p. slice_index c.args.memory.now p) c.args.mutex c.args.other c.args.stage.now) (sym (told_asleep s c.args.kernel.now c.args.other (λ key. refl) in_call true c.if-asleep.ensures.value))

pub returns : goal.returns
returns c = λ ts in_call.
    let s : State = state_at c.args.layout.now c.args.memory.now c.args.kernel.now ts in
    c.answers.ensures
    ∙ other_holds (c.args.other == c.args.thread) (is_asleep s c.args.other) (answers c.args.layout.now (λ p. slice_index c.args.memory.now p) c.args.mutex c.args.other c.args.stage.now)
    (differs c.args.other c.args.thread c.get.result c.get-2.result c.get.ensures.value c.get-2.ensures.value c.if-get.false)
    (sym (told_asleep s c.args.kernel.now c.args.other (λ key. refl) in_call false c.if-asleep.ensures.value))
