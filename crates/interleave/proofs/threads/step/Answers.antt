use Rattle.std.proofs.Common.{◌≡◌, true, sym, ap}
use Rattle.std.specs.Prelude.{refl}
use Rattle.protocol.specs.Machine.{State, After, is_asleep}
use Rattle.interleave.specs.Shown.{state_at}
use Rattle.interleave.proofs.Sleeping.{asleep_step, told_asleep}
use Rattle.interleave.proofs.threads.step.Goals as goal

pub returns-then-asleep-clause-state : goal.returns-then-asleep-clause-state
returns-then-asleep-clause-state c =
    let s : State = state_at c.args.layout.now c.args.memory.now c.args.kernel.now c.args.threads.now.items in
    let asleep : is_asleep s c.args.thread ≡ true = sym (told_asleep s c.args.kernel.now c.args.thread (λ key. refl) c.requires.sleeps true c.if-asleep.ensures.value) in
    sym (ap (λ (a : After). a.state) (asleep_step s c.args.thread asleep))

pub returns-then-asleep-clause-note : goal.returns-then-asleep-clause-note
returns-then-asleep-clause-note c =
    let s : State = state_at c.args.layout.now c.args.memory.now c.args.kernel.now c.args.threads.now.items in
    let asleep : is_asleep s c.args.thread ≡ true = sym (told_asleep s c.args.kernel.now c.args.thread (λ key. refl) c.requires.sleeps true c.if-asleep.ensures.value) in
    sym (ap (λ (a : After). a.note) (asleep_step s c.args.thread asleep))
