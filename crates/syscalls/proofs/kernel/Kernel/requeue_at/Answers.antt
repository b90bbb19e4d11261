use Rattle.syscalls.proofs.Moves.{requeues}
use Rattle.syscalls.proofs.kernel.Kernel.requeue_at.Goals as goal

pub returns-clause-changes : goal.returns-clause-changes
returns-clause-changes g c = requeues c.args.self.now c.wake_at.new.self c.move_sleepers-moved.new.self c.args.from c.args.wake c.args.to c.args.moves c.in_ok-woken.woken c.move_sleepers-moved.result c.in_ok-first_of_two.ensures.answer.0 c.in_ok-woken.ensures.changes c.move_sleepers-moved.ensures.changes
