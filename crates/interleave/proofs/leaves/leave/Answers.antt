use Rattle.std.proofs.Common.{arith, sym}
use Rattle.interleave.proofs.Leaving.{left_state, left_note, stayed_state, stayed_note}
use Rattle.interleave.proofs.leaves.leave.Goals as goal

pub returns-then-remove-clause-state : goal.returns-then-remove-clause-state
returns-then-remove-clause-state c = λ ws ts in_call. left_state c.args.layout.now ws c.args.kernel.now c.remove.new.self ts c.args.thread (omega arith) (omega arith) in_call c.if-remove.ensures.changes

pub returns-then-remove-clause-note : goal.returns-then-remove-clause-note
returns-then-remove-clause-note c = λ ws ts in_call. left_note c.args.layout.now ws c.args.kernel.now c.remove.new.self ts c.args.thread (omega arith) (omega arith) in_call c.if-remove.ensures.changes

pub returns-else-remove-clause-state : goal.returns-else-remove-clause-state
returns-else-remove-clause-state c = λ ws ts in_call. stayed_state c.args.layout.now ws c.args.kernel.now c.remove.new.self ts c.args.thread (omega arith) (omega arith) in_call c.if-remove.ensures.changes

pub returns-else-remove-clause-note : goal.returns-else-remove-clause-note
returns-else-remove-clause-note c = λ ws ts in_call. sym (stayed_note c.args.layout.now ws c.args.kernel.now c.remove.new.self ts c.args.thread (omega arith) (omega arith) in_call c.if-remove.ensures.changes)
