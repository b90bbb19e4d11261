use Rattle.refuting.proofs.Closure.{Closing}
use Rattle.refuting.proofs.closing.close.Given as goal

abbrev pub invariant-loop-at : goal.invariant-loop-at
invariant-loop-at l = Closing l.mutex l.turns l.fn.states.items l.states.items l.at
