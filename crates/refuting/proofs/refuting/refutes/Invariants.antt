use Rattle.refuting.proofs.Going.{Going}
use Rattle.refuting.proofs.refuting.refutes.Given as goal

abbrev pub invariant-loop-at : goal.invariant-loop-at
invariant-loop-at l = Going l.head.mutexes l.mutex l.lines l.at l.refuter
