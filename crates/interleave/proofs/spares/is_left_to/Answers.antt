use Rattle.std.proofs.Common.{sym, ap, ◌∙◌}
use Rattle.protocol.specs.Machine.{is_left_to}
use Rattle.protocol.specs.declared.event.LeftTo.{LeftTo}
use Rattle.interleave.specs.Shown.{state_at}
use Rattle.interleave.proofs.spares.is_left_to.Goals as goal

pub returns-in-Owner : goal.returns-in-Owner
returns-in-Owner c = λ sleeps. c.is_owned.ensures c.args.kernel.now c.args.threads.now.items ∙ ap (λ (b : LeftTo). is_left_to (state_at c.args.layout.now c.args.memory.now c.args.kernel.now c.args.threads.now.items) c.args.thread c.args.mutex b) (sym c.in-Owner.is)

pub returns-in-Walk : goal.returns-in-Walk
returns-in-Walk c = λ sleeps. c.a_walk_minds.ensures c.args.kernel.now ∙ ap (λ (b : LeftTo). is_left_to (state_at c.args.layout.now c.args.memory.now c.args.kernel.now c.args.threads.now.items) c.args.thread c.args.mutex b) (sym c.in-Walk.is)
